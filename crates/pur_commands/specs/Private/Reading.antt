-- How reading a text goes on and ends.
use Rattle.std.specs.Prelude.{◌≡◌, ℕ, ◌+◌, ◌<◌, ◌≤◌, List, length, take, Option, Result, IfOk, IfSome, IsErrOf, OnOk}
use Rattle.pur_io.specs.Faults.{Rose}
use Rattle.pur_io.specs.Texts.{Name}
use Rattle.pur_io.specs.declared.traits.Shelf.{Ghosts}
use Rattle.pur_commands.specs.declared.texts.ReadFault.{ReadFault}
use Rattle.pur_commands.specs.declared.texts.ReadFault.TheVariants.{Failed, TooLong}

-- what was read so far is the front of the text up to the place
pub record ReadSoFar (text : List ℕ) (place : ℕ) (bytes : List ℕ) : Type 0 where
  pub here : place ≡ length bytes
  pub front : bytes ≡ take (length bytes) text
  pub within : length bytes ≤ length text

-- so many bytes were taken so far, and they are the front of a text where there is one to tell
pub record TakenSoFar {X : Type 0} (took : List ℕ → Type 0) (told : Option X) (text : X → List ℕ) (place count : ℕ) : Type 0 where
  pub bytes : List ℕ
  pub took_them : took bytes
  pub counted : count ≡ length bytes
  pub read : IfSome told (λ x. ReadSoFar (text x) place bytes)

-- the bytes that were taken are a text within a limit, where there is one to tell
pub record TookWhole {X : Type 0} (took : List ℕ → Type 0) (told : Option X) (text : X → List ℕ) (limit : ℕ) : Type 0 where
  pub bytes : List ℕ
  pub took_them : took bytes
  pub small : length bytes ≤ limit
  pub whole : IfSome told (λ x. bytes ≡ text x)

-- the text, one of those of a shelf, was read whole within a limit, or not
pub record IsRead {H T : Type 0} (h : Ghosts H) (took : T → List ℕ → Type 0) (text : List (Name × List ℕ) → List ℕ) (limit : ℕ) (before after : H)
    (result : Result T ReadFault) : Type 0 where
  pub whole : IfOk result (λ intake. TookWhole (took intake) (h.texts before) text limit)
  pub long : IsErrOf result TooLong → IfSome (h.texts before) (λ texts. limit < length (text texts))
  pub kept : OnOk result (h.faults after ≡ h.faults before)
  pub kept_long : IsErrOf result TooLong → h.faults after ≡ h.faults before
  pub failed : IsErrOf result Failed → Rose (h.faults before) (h.faults after)
  pub place : IfSome (h.texts before) (λ _. h.place after ≤ limit + 1)
  pub texts : h.texts after ≡ h.texts before
