use Rattle.pur_cssprops.proofs.OneFormLaws.{width_or_style, width_or_color, style_or_color, under_or_over, under_or_through, over_or_through}
use Rattle.pur_cssprops.proofs.laws.words_have_one_form.Goals as goal

pub returns : goal.returns
returns c = record {
  width_or_style = width_or_style;
  width_or_color = width_or_color;
  style_or_color = style_or_color;
  under_or_over = under_or_over;
  under_or_through = under_or_through;
  over_or_through = over_or_through;
}
