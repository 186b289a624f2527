use Rattle.std.proofs.Common.{◌≡◌, ℕ, ◌+◌, ◌-◌, ◌≤◌, min, List, ◌++◌, length, take, drop, Option, Some, None, Result, Ok, Err, OnOk, OnErr, is_err, false, true≢false, IfSome, refl, ap, sym, ◌∙◌, arith, append_assoc, length-append, length-drop, subst}
use Rattle.std.proofs.Math.Seq.{take-add}
use Rattle.std.proofs.lemmas.List.{take_rest, take_all, length-take-le, length-take}
use Rattle.pur_io.specs.Taken.{taken_more}
use Rattle.pur_io.specs.Texts.{Name, text_chosen, ReadsAt}
use Rattle.pur_commands.specs.Private.Reading.{ReadSoFar, TakenSoFar}
use Rattle.pur_commands.specs.Writing.{TookFront}

-- what is taken in two pieces
pub taken_twice : (o : Option (List ℕ)) (a b : List ℕ) → taken_more (taken_more o a) b ≡ taken_more o (a ++ b)
taken_twice None a b = refl
taken_twice (Some x) a b = ap Some (append_assoc x a b)

-- a write takes the next bytes of a text
pub taken_step : (before now after : Option (List ℕ)) (text : List ℕ) (at n : ℕ) → now ≡ taken_more before (take at text)
    → after ≡ taken_more now (take n (take (length text - at) (drop at text))) → after ≡ taken_more before (take (at + n) text)
taken_step before now after text at n p q =
    q ∙ ap (λ o. taken_more o (take n (take (length text - at) (drop at text)))) p
    ∙ taken_twice before (take at text) (take n (take (length text - at) (drop at text)))
    ∙ ap (taken_more before) (ap (λ r. take at text ++ take n r) (take_rest text at) ∙ sym (take-add at n text))

-- however writing ended, a front of the text was taken
pub took_some : {T E : Type 0} (r : Result T E) (before after : Option (List ℕ)) (text : List ℕ)
    → OnOk r (after ≡ taken_more before text) → OnErr r (TookFront before after text) → (k : ℕ) × (after ≡ taken_more before (take k text))
took_some (Ok x) before after text ok err = (length text, ok ∙ ap (taken_more before) (sym (take_all (length text) text (omega arith))))
took_some (Err e) before after text ok err = (err.count, err.taken)

-- a read goes on with what was read so far
pub read_step : (texts : Option (List (Name × List ℕ))) (chosen now : Option Name) (place next n : ℕ) (bytes into new : List ℕ)
    → now ≡ chosen → n ≤ length into → new ≡ bytes ++ take n into
    → IfSome texts (λ ts. ReadSoFar (text_chosen ts chosen) place bytes)
    → IfSome texts (λ ts. ReadsAt (text_chosen ts now) place next n into)
    → IfSome texts (λ ts. ReadSoFar (text_chosen ts chosen) next new)
read_step None chosen now place next n bytes into new c m e old step = tt
read_step (Some ts) chosen now place next n bytes into new c m e old step =
    let text = text_chosen ts chosen in
    let s : ReadsAt text place next n into = subst (λ (o : Option Name). ReadsAt (text_chosen ts o) place next n into) c step in
    let size : length new ≡ length bytes + n = ap length e ∙ omega (arith, length-append bytes (take n into), length-take-le n into m) in
    record {
      here = omega (arith, s.next_place, old.here, size);
      front = e ∙ ap (λ x. x ++ take n into) old.front ∙ ap (λ x. take (length bytes) text ++ x) (s.bytes ∙ ap (λ k. take n (drop k text)) old.here)
          ∙ sym (take-add (length bytes) n text) ∙ ap (λ k. take k text) (sym size);
      within = omega (arith, size, s.within, length-drop place text, old.here, old.within);
    }

-- what took these bytes takes the next ones
pub taken_on : (took took' : List ℕ → Type 0) (texts : Option (List (Name × List ℕ))) (chosen now : Option Name) (place next n count : ℕ) (into piece : List ℕ)
    → now ≡ chosen → n ≤ length into → piece ≡ take n into → ((bytes : List ℕ) → took bytes → took' (bytes ++ piece))
    → TakenSoFar took texts (λ ts. text_chosen ts chosen) place count
    → IfSome texts (λ ts. ReadsAt (text_chosen ts now) place next n into)
    → TakenSoFar took' texts (λ ts. text_chosen ts chosen) next (count + n)
taken_on took took' texts chosen now place next n count into piece same fits is step old reads = record {
  bytes = old.bytes ++ piece;
  took_them = step old.bytes old.took_them;
  counted = omega (arith, old.counted, length-append old.bytes piece, ap length is, length-take-le n into fits);
  read = read_step texts chosen now place next n old.bytes into (old.bytes ++ piece) same fits (ap (λ t. old.bytes ++ t) is) old.read reads;
}

-- what is said where a call succeeds is so where it didn't fail
pub succeeded : {T E P : Type 0} (r : Result T E) → is_err r ≡ false → OnOk r P → P
succeeded (Ok x) fine said = said
succeeded (Err e) fine said = absurd (true≢false fine)

-- no more is read than one byte past the limit
pub read_small : (into buffer : List ℕ) (n count want room limit : ℕ) → n ≤ length into
    → length into ≡ length (take want buffer) → want ≡ min (limit + 1 - count) room → count ≤ limit → count + n ≤ limit + 1
read_small into buffer n count want room limit fits size is few = omega (arith, fits, size, is, few, length-take want buffer)
