use Rattle.std.proofs.lemmas.Str.{chars-nil}
use Rattle.pur_attrlist.proofs.short_text.ShortText.empty.Goals as goal

pub returns : goal.returns
returns c = chars-nil
