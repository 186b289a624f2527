-- What a text gives by the document that it is, and a list by its first item and the items after it.
use Rattle.std.proofs.Common.{◌≡◌, ℕ, Bool, true, false, List, [], ◌∷◌, ◌++◌, Option, Some, None, Ok, Err, refl, ap, sym, ◌≢◌}
use Rattle.std.specs.Prelude.{IfOk, IfErr}
use Rattle.std.specs.Str.{IsUtf8, is_utf8}
use Rattle.std.proofs.lemmas.Str.{IsUtf8-from_is_utf8, is_utf8-from_IsUtf8}
use Rattle.std.specs.Option.{ok_or}
use Rattle.toml.specs.Data.{Data, Items, item, Members, as_array}
use Rattle.toml.specs.Parse.{parse_document}
use Rattle.pur_settings.proofs.SetLemmas.{one-more}
use Rattle.pur_settings.specs.Reading.{Reading, reading_map, text_in, items_in, list_in}
use Rattle.pur_settings.specs.Settings.{document, settings_in, settings_of}
use Rattle.pur_settings.specs.Rules.{Rules}
use Rattle.pur_settings.specs.declared.faults.SettingsFault.TheVariants.{Memory, NotToml, WrongKind}

-- a document gives what its members give
pub settings_of-document : (text : List ℕ) (all : Members) → IsUtf8 text → parse_document text ≡ Some all
    → settings_of text ≡ settings_in all
unfolding settings_of
settings_of-document text all utf8 parsed = rw (is_utf8-from_IsUtf8 text utf8, parsed) refl

-- a text that is no document gives that
pub settings_of-none : (text : List ℕ) → (IsUtf8 text → parse_document text ≡ None) → settings_of text ≡ Err NotToml
unfolding settings_of
settings_of-none text none = go (is_utf8 text) refl where
  go : (b : Bool) → is_utf8 text ≡ b → settings_of text ≡ Err NotToml
  go true valid = rw (valid, none (IsUtf8-from_is_utf8 text valid)) refl
  go false invalid = rw invalid refl

-- the document that a text is
pub document-is : (text : List ℕ) (all : Members) → IsUtf8 text → parse_document text ≡ Some all → document text ≡ Some all
document-is text all utf8 parsed = rw (is_utf8-from_IsUtf8 text utf8, parsed) refl

-- an answer that tells what is given, unless for want of memory, is what is given
pub told : (answer gives : Reading Rules) → IfOk answer (λ rules. gives ≡ Ok rules) → IfErr answer (λ fault. fault ≢ Memory → gives ≡ Err fault)
    → answer ≢ Err Memory → answer ≡ gives
told (Ok rules) gives ok err other = sym ok
told (Err fault) gives ok err other = sym (err (λ wanting. other (ap Err wanting)))

-- before the first item of a list nothing is in the set
pub list-begun : {A : Type 0} (order : List A → List A) (named : List ℕ → Option A) (value : Data) (items : Items) (set : List A) → set ≡ []
    → ok_or (as_array value) WrongKind ≡ Ok items
    → reading_map (λ more. order (set ++ more)) (items_in named items) ≡ reading_map order (list_in named value)
list-begun order named value items set empty listed = rw (empty, listed) refl

-- past an item the set has what it names
pub list-past : {A : Type 0} (order : List A → List A) (named : List ℕ → Option A) (first : Data) (more : Items) (e : A) (set grown : List A)
    → text_in named first ≡ Ok e → ((more : List A) → order (grown ++ more) ≡ order (set ++ e ∷ more))
    → reading_map (λ values. order (grown ++ values)) (items_in named more) ≡ reading_map (λ values. order (set ++ values)) (items_in named (item first more))
list-past order named first more e set grown names grows = rw names (one-more order e set grown (items_in named more) grows)
