-- What holds of each doctype and content kind in the lists of all holds of every one.
use Rattle.std.proofs.Common.{◌≡◌, Bool, true, List, [], ◌∷◌, refl}
use Rattle.std.specs.List.{list_all}
use Rattle.pur_names.proofs.Variants.{each}
use Rattle.pur_modules.specs.contracts.kinds.Content as content_type
use Rattle.pur_modules.specs.contracts.kinds.Doctype as doctype_type
use Rattle.pur_modules.specs.declared.kinds.Content.{Content}
use Rattle.pur_modules.specs.declared.kinds.Content.TheVariants.{AddressMix, Block, Cells, Cols, FieldsetMix, Flow, Inline, Items, Nothing, OptionItems, Options, Pairs, Rows, TableParts, TextOnly}
use Rattle.pur_modules.specs.declared.kinds.Doctype.{Doctype}
use Rattle.pur_modules.specs.declared.kinds.Doctype.TheVariants.{Strict, Transitional}

abbrev pub all_doctypes : List Doctype
all_doctypes = Strict ∷ Transitional ∷ []

abbrev pub all_contents : List Content
all_contents = Inline ∷ Flow ∷ Block ∷ AddressMix ∷ Items ∷ Pairs ∷ TableParts ∷ Rows ∷ Cells ∷ Cols ∷ Options ∷ OptionItems ∷ TextOnly ∷ FieldsetMix ∷ Nothing ∷ []

pub each_doctype : (test : Doctype → Bool) → list_all test all_doctypes ≡ true → (doctype : Doctype) → test doctype ≡ true
each_doctype test all = each doctype_type.the_type tt all_doctypes refl test all

pub each_content : (test : Content → Bool) → list_all test all_contents ≡ true → (content : Content) → test content ≡ true
each_content test all = each content_type.the_type tt all_contents refl test all

-- a table with a row for each doctype and each kind
pub each_kind : (test : Doctype → Content → Bool) → list_all (λ doctype. list_all (test doctype) all_contents) all_doctypes ≡ true
    → (doctype : Doctype) (content : Content) → test doctype content ≡ true
each_kind test all doctype content = each_content (test doctype) (each_doctype (λ d. list_all (test d) all_contents) all doctype) content
