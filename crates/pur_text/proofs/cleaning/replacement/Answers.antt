use Rattle.std.proofs.Common.{eq-eqb, sym, lit<}
use Rattle.std.proofs.lemmas.Bool.{ne_eqb}
use Rattle.std.proofs.lemmas.Str.Pattern.{starts_char}
use Rattle.pur_text.proofs.CleaningLemmas.{pair_dropped, alone_replaced}
use Rattle.pur_text.proofs.cleaning.replacement.Goals as goal

pub returns-in-13 : goal.returns-in-13
returns-in-13 c =
    let starts = starts_char 10 c.args.behind.now c.starts_with.result c.starts_with.ensures.cases (lit< tt) (lit< tt) in
    rw c.in-13.is (sym (pair_dropped _ c.utf8.behind (eq-eqb _ _ (starts.0 c.if-starts_with.true))))

pub returns-in-13-2 : goal.returns-in-13-2
returns-in-13-2 c =
    let starts = starts_char 10 c.args.behind.now c.starts_with.result c.starts_with.ensures.cases (lit< tt) (lit< tt) in
    rw c.in-13.is (sym (alone_replaced _ c.utf8.behind (ne_eqb _ _ (λ e. let yes = starts.1 e in let no = c.if-starts_with.false in cc))))
