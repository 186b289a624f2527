-- The words of all sets, computed.
use Rattle.std.proofs.Common.{◌≡◌, ℕ, Bool, true, List, [], ◌∷◌, ◌||◌, map, refl, ap, arith, Bor}
use Rattle.std.specs.Char.{to_ascii_lowercase}
use Rattle.std.specs.List.{list_all, list_any}
use Rattle.std.specs.Str.{bytes_eq, str_to_ascii_lowercase}
use Rattle.std.proofs.lemmas.Bool.{and_parts}
use Rattle.std.proofs.lemmas.Bool.Decides.{nat_tests}
use Rattle.pur_names.proofs.Variants.{each}
use Rattle.pur_laws.proofs.Cases.{lowered-same}
use Rattle.pur_laws.proofs.Lists.{all-weaker}
use Rattle.pur_laws.proofs.Tests.{all-named}
use Rattle.pur_laws.proofs.Texts.{is_ascii}
use Rattle.pur_csstok.specs.Atoms.{is_atom_character, is_atom}
use Rattle.pur_csstok.specs.Names.{is_one_of}
use Rattle.pur_cssprops.specs.Keywords.{words_in}
use Rattle.pur_cssprops.specs.contracts.keywords.Keywords as keywords_type
use Rattle.pur_cssprops.specs.declared.keywords.Keywords.{Keywords}
use Rattle.pur_cssprops.specs.declared.keywords.Keywords.TheVariants as set

abbrev all_sets : List Keywords
all_sets =
    set.Empty ∷ set.Inherit ∷ set.NoneAlone ∷ set.Auto ∷ set.Normal ∷ set.Attachment ∷ set.Repeat ∷ set.Collapse ∷
    set.LineWidth ∷ set.LineStyle ∷ set.CaptionSide ∷ set.Clear ∷ set.Float ∷ set.FontSize ∷ set.FontStyle ∷
    set.FontVariant ∷ set.FontWeight ∷ set.ListPosition ∷ set.ListType ∷ set.TableLayout ∷ set.TextAlign ∷
    set.TextTransform ∷ set.VerticalAlign ∷ set.WhiteSpace ∷ set.Underline ∷ set.Overline ∷ set.LineThrough ∷ []

-- what each set in the list passes every set passes
each_set : (test : Keywords → Bool) → list_all test all_sets ≡ true → (keywords : Keywords) → test keywords ≡ true
each_set test all = each keywords_type.the_type tt all_sets refl test all

-- each word is an atom, so it is in lower case and in ASCII
pub words_are_atoms : (keywords : Keywords) → list_all is_atom (words_in keywords) ≡ true
words_are_atoms = each_set (λ keywords. list_all is_atom (words_in keywords)) refl

pub keyword-atom : (keywords : Keywords) (word : List ℕ) → is_one_of (words_in keywords) word ≡ true → is_atom word ≡ true
keyword-atom keywords word is = all-named is_atom (words_in keywords) word (words_are_atoms keywords) is

atom-characters : (text : List ℕ) → is_atom text ≡ true → list_all is_atom_character text ≡ true
atom-characters text is = (and_parts _ (list_all is_atom_character text) is).1

character-ascii : (c : ℕ) → is_atom_character c ≡ true → is_ascii c ≡ true
character-ascii c is = grind (arith, nat_tests)

character-lowered : (c : ℕ) → is_atom_character c ≡ true → to_ascii_lowercase c ≡ c
character-lowered c is = grind (arith, nat_tests)

pub atom-ascii : (text : List ℕ) → is_atom text ≡ true → list_all is_ascii text ≡ true
atom-ascii text is = all-weaker is_atom_character is_ascii character-ascii text (atom-characters text is)

pub atom-lowered : (text : List ℕ) → is_atom text ≡ true → str_to_ascii_lowercase text ≡ text
atom-lowered text is = lowered-same is_atom_character character-lowered text (atom-characters text is)

pub keyword-ascii : (keywords : Keywords) (word : List ℕ) → is_one_of (words_in keywords) word ≡ true → list_all is_ascii word ≡ true
keyword-ascii keywords word is = atom-ascii word (keyword-atom keywords word is)

-- words behind references
pub among_map : (words : List (Bor (List ℕ))) (word : List ℕ) → list_any (λ w. bytes_eq word w.now) words ≡ is_one_of (map (λ w. w.now) words) word
among_map [] word = refl
among_map (w ∷ words) word = ap (λ b. bytes_eq word w.now || b) (among_map words word)
