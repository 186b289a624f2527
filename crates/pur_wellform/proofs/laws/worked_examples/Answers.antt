use Rattle.pur_wellform.proofs.RowFacts.{carries_past_an_end, carries_into_a_block, wraps_text_in_an_item, drops_a_cell_without_table, drops_text_in_a_table, loses_text_in_a_table, drops_a_link_in_a_link, drops_an_image_in_pre, closes_round_a_block, implies_what_is_permitted, wraps_text_in_a_paragraph, carries_nothing_out_of_a_cell, stops_at_the_limit, counts_a_row_for_two}
use Rattle.pur_wellform.proofs.laws.worked_examples.Goals as goal

pub returns : goal.returns
returns c = record {
  past_an_end = carries_past_an_end;
  into_a_block = carries_into_a_block;
  item = wraps_text_in_an_item;
  cell = drops_a_cell_without_table;
  table = drops_text_in_a_table;
  lost = loses_text_in_a_table;
  link = drops_a_link_in_a_link;
  image = drops_an_image_in_pre;
  round_a_block = closes_round_a_block;
  permitted = implies_what_is_permitted;
  strict = wraps_text_in_a_paragraph;
  out_of_a_cell = carries_nothing_out_of_a_cell;
  limit = stops_at_the_limit;
  row = counts_a_row_for_two;
}
