use Rattle.pur_nesting.proofs.RowLemmas.{drops_an_empty_list, keeps_a_definition, joins_neighbours, puts_the_caption_first, makes_a_paragraph, loses_a_caption, drops_a_blank_table, puts_bodies_last, makes_the_head_a_body, takes_the_rows_of_the_head, makes_the_foot_a_body, puts_the_foot_before_bodies, drops_an_empty_table, drops_rows_without_cells, keeps_attributes_of_a_head, takes_the_rows_of_a_foot, puts_runs_into_bodies}
use Rattle.pur_nesting.proofs.laws.worked_examples.Goals as goal

pub returns : goal.returns
returns c = record {
  empty_list = drops_an_empty_list;
  definition = keeps_a_definition;
  neighbours = joins_neighbours;
  caption = puts_the_caption_first;
  paragraph = makes_a_paragraph;
  lost_caption = loses_a_caption;
  blank_table = drops_a_blank_table;
  bodies = puts_bodies_last;
  head = makes_the_head_a_body;
  head_rows = takes_the_rows_of_the_head;
  foot = makes_the_foot_a_body;
  foot_first = puts_the_foot_before_bodies;
  empty_table = drops_an_empty_table;
  empty_rows = drops_rows_without_cells;
  attributes = keeps_attributes_of_a_head;
  foot_rows = takes_the_rows_of_a_foot;
  runs = puts_runs_into_bodies;
}
