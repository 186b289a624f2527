-- The expressions of the kinds without an order are runs of their letters.
use Rattle.std.proofs.Common.{◌≡◌, [], ◌∷◌, true, refl}
use Rattle.pur_modules.specs.declared.kinds.Content.{Content}
use Rattle.pur_modules.specs.declared.kinds.Content.TheVariants.{Inline, Flow, Block, AddressMix, Items, Pairs, TableParts, Rows, Cells, Cols, Options, OptionItems, TextOnly, FieldsetMix, Nothing}
use Rattle.pur_modules.specs.declared.kinds.Doctype.{Doctype}
use Rattle.pur_modules.specs.declared.kinds.Doctype.TheVariants.{Strict, Transitional}
use Rattle.pur_modules.specs.Expressions.{any_of, child_letters, expression_of, fieldset_way, has_text_letter, one_step, some_of}
use Rattle.pur_models.specs.Laws.{takes_any_number, takes_one_or_more}
use Rattle.pur_models.specs.Private.KindLetters.{kind_letters}

pub any_kind : (doctype : Doctype) (content : Content) → takes_any_number content ≡ true
    → expression_of doctype content ≡ one_step (any_of (kind_letters doctype content))
unfolding kind_letters child_letters has_text_letter
any_kind Strict Inline is = refl
any_kind Strict Flow is = refl
any_kind Strict Block is = refl
any_kind Strict AddressMix is = refl
any_kind Strict Cols is = refl
any_kind Transitional Inline is = refl
any_kind Transitional Flow is = refl
any_kind Transitional Block is = refl
any_kind Transitional AddressMix is = refl
any_kind Transitional Cols is = refl
any_kind Strict TextOnly is = refl
any_kind Transitional TextOnly is = refl
any_kind doctype Items is = absurd (cc)
any_kind doctype Pairs is = absurd (cc)
any_kind doctype TableParts is = absurd (cc)
any_kind doctype Rows is = absurd (cc)
any_kind doctype Cells is = absurd (cc)
any_kind doctype Options is = absurd (cc)
any_kind doctype OptionItems is = absurd (cc)
any_kind doctype FieldsetMix is = absurd (cc)
any_kind doctype Nothing is = absurd (cc)

pub some_kind : (doctype : Doctype) (content : Content) → takes_one_or_more content ≡ true
    → expression_of doctype content ≡ one_step (some_of (kind_letters doctype content))
unfolding kind_letters child_letters has_text_letter
some_kind Strict Items is = refl
some_kind Strict Pairs is = refl
some_kind Strict Rows is = refl
some_kind Strict Cells is = refl
some_kind Transitional Items is = refl
some_kind Transitional Pairs is = refl
some_kind Transitional Rows is = refl
some_kind Transitional Cells is = refl
some_kind Strict Options is = refl
some_kind Strict OptionItems is = refl
some_kind Transitional Options is = refl
some_kind Transitional OptionItems is = refl
some_kind doctype Inline is = absurd (cc)
some_kind doctype Flow is = absurd (cc)
some_kind doctype Block is = absurd (cc)
some_kind doctype AddressMix is = absurd (cc)
some_kind doctype TableParts is = absurd (cc)
some_kind doctype Cols is = absurd (cc)
some_kind doctype TextOnly is = absurd (cc)
some_kind doctype FieldsetMix is = absurd (cc)
some_kind doctype Nothing is = absurd (cc)

-- a fieldset is a legend or none before what flow content has
pub fieldset_steps : (doctype : Doctype) → fieldset_way (kind_letters doctype Flow) ∷ [] ≡ expression_of doctype FieldsetMix
unfolding kind_letters child_letters has_text_letter
fieldset_steps Strict = refl
fieldset_steps Transitional = refl
