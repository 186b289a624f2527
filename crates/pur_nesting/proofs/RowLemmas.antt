-- The worked examples, computed.
use Rattle.std.proofs.Common.{refl}
use Rattle.pur_nesting.specs.Rows.{DropsAnEmptyList, KeepsADefinition, JoinsNeighbours, PutsTheCaptionFirst, MakesAParagraph, LosesACaption, DropsABlankTable, PutsBodiesLast, MakesTheHeadABody, TakesTheRowsOfTheHead, MakesTheFootABody, PutsTheFootBeforeBodies, DropsAnEmptyTable, DropsRowsWithoutCells, KeepsAttributesOfAHead, TakesTheRowsOfAFoot, PutsRunsIntoBodies}

pub drops_an_empty_list : DropsAnEmptyList
drops_an_empty_list = refl

pub keeps_a_definition : KeepsADefinition
keeps_a_definition = refl

pub joins_neighbours : JoinsNeighbours
joins_neighbours = refl

pub puts_the_caption_first : PutsTheCaptionFirst
puts_the_caption_first = refl

pub makes_a_paragraph : MakesAParagraph
makes_a_paragraph = refl

pub loses_a_caption : LosesACaption
loses_a_caption = (refl, refl)

pub drops_a_blank_table : DropsABlankTable
drops_a_blank_table = refl

pub puts_bodies_last : PutsBodiesLast
puts_bodies_last = refl

pub makes_the_head_a_body : MakesTheHeadABody
makes_the_head_a_body = refl

pub takes_the_rows_of_the_head : TakesTheRowsOfTheHead
takes_the_rows_of_the_head = refl

pub makes_the_foot_a_body : MakesTheFootABody
makes_the_foot_a_body = refl

pub puts_the_foot_before_bodies : PutsTheFootBeforeBodies
puts_the_foot_before_bodies = refl

pub drops_an_empty_table : DropsAnEmptyTable
drops_an_empty_table = refl

pub drops_rows_without_cells : DropsRowsWithoutCells
drops_rows_without_cells = refl

pub keeps_attributes_of_a_head : KeepsAttributesOfAHead
keeps_attributes_of_a_head = refl

pub takes_the_rows_of_a_foot : TakesTheRowsOfAFoot
takes_the_rows_of_a_foot = refl

pub puts_runs_into_bodies : PutsRunsIntoBodies
puts_runs_into_bodies = (refl, refl)
