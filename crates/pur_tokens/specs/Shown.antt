-- What is shown, as the tokens that it is read from.
use Rattle.std.specs.Prelude.{List, Option}
use Rattle.std.specs.Option.{option_map}
use Rattle.pur_attrlist.specs.Texts.{text_of}
use Rattle.pur_names.specs.Elements.{element_name}
use Rattle.pur_tokens.specs.Joining.{token_given}
use Rattle.pur_tokens.specs.Tokens.{PlainToken, text_token, start_token, end_token, empty_token}
use Rattle.pur_tokens.specs.declared.shown.Shown.{Shown}
use Rattle.pur_tokens.specs.declared.shown.Shown.TheVariants.{Text, Start, End, Empty}

-- what a piece says: a tag says the name of its element (HTML 4.01, section 3.2)
abbrev pub plain_shown : Shown → PlainToken
plain_shown (Text text) = text_token (text_of text)
plain_shown (Start tag) = start_token (element_name tag.element) tag.attrs
plain_shown (End element) = end_token (element_name element)
plain_shown (Empty tag) = empty_token (element_name tag.element) tag.attrs

-- what a piece that is given says, or none
abbrev pub shown_given : Option Shown → List PlainToken
shown_given given = token_given (option_map plain_shown given)
