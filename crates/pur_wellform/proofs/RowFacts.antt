-- The worked examples, by computing.
use Rattle.std.proofs.Common.{refl}
use Rattle.pur_names.specs.Elements.{element_named}
use Rattle.pur_modules.specs.Contents.{content_held}
use Rattle.pur_modules.specs.Expressions.{child_letters, has_text_letter}
use Rattle.pur_modules.specs.Wrappers.{wrapper_of}
use Rattle.pur_wellform.specs.Rows.{CarriesPastAnEnd, CarriesIntoABlock, WrapsTextInAnItem, DropsACellWithoutTable, DropsTextInATable, LosesTextInATable, DropsALinkInALink, DropsAnImageInPre, ClosesRoundABlock, ImpliesWhatIsPermitted, WrapsTextInAParagraph, CarriesNothingOutOfACell, StopsAtTheLimit, CountsARowForTwo}

pub carries_past_an_end : CarriesPastAnEnd
unfolding element_named content_held child_letters has_text_letter wrapper_of
carries_past_an_end = refl

pub carries_into_a_block : CarriesIntoABlock
unfolding element_named content_held child_letters has_text_letter wrapper_of lib.Utf8.encode
carries_into_a_block = refl

pub wraps_text_in_an_item : WrapsTextInAnItem
unfolding element_named content_held child_letters has_text_letter wrapper_of
wraps_text_in_an_item = refl

pub drops_a_cell_without_table : DropsACellWithoutTable
unfolding element_named content_held child_letters has_text_letter wrapper_of
drops_a_cell_without_table = refl

pub drops_text_in_a_table : DropsTextInATable
unfolding element_named content_held child_letters has_text_letter wrapper_of
drops_text_in_a_table = refl

pub loses_text_in_a_table : LosesTextInATable
unfolding element_named content_held child_letters has_text_letter wrapper_of
loses_text_in_a_table = refl

pub drops_a_link_in_a_link : DropsALinkInALink
unfolding element_named content_held child_letters has_text_letter wrapper_of
drops_a_link_in_a_link = refl

pub drops_an_image_in_pre : DropsAnImageInPre
unfolding element_named content_held child_letters has_text_letter wrapper_of
drops_an_image_in_pre = refl

pub closes_round_a_block : ClosesRoundABlock
unfolding element_named content_held child_letters has_text_letter wrapper_of
closes_round_a_block = refl

pub implies_what_is_permitted : ImpliesWhatIsPermitted
unfolding element_named content_held child_letters has_text_letter wrapper_of
implies_what_is_permitted = refl

pub wraps_text_in_a_paragraph : WrapsTextInAParagraph
unfolding element_named content_held child_letters has_text_letter wrapper_of
wraps_text_in_a_paragraph = refl

pub carries_nothing_out_of_a_cell : CarriesNothingOutOfACell
unfolding element_named content_held child_letters has_text_letter wrapper_of
carries_nothing_out_of_a_cell = refl

pub stops_at_the_limit : StopsAtTheLimit
unfolding element_named content_held child_letters has_text_letter wrapper_of
stops_at_the_limit = refl

pub counts_a_row_for_two : CountsARowForTwo
unfolding element_named content_held child_letters has_text_letter wrapper_of
counts_a_row_for_two = refl
