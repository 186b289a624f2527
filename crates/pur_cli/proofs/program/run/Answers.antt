use Rattle.std.proofs.Common.{◌≡◌, ◌∙◌, Option, Some, None, ap, map, string_bytes, rules, subst}
use Rattle.pur_commands.specs.Commands.{PlainCommand, plain_command, IfSample}
use Rattle.pur_commands.specs.Statuses.{code_of}
use Rattle.pur_commands.specs.Words.{command_of}
use Rattle.pur_cli.specs.Private.Ends.{Ends}
use Rattle.pur_cli.proofs.EndsLemmas.{answered_in_run, refused_in_run, answered_without_command, refused_without_command, answered_without_memory, refused_without_memory, of_each_sample}
use Rattle.pur_cli.proofs.program.run.Goals as goal
use Rattle.pur_cli.proofs.program.run.Goals.{in-Ok-Some, in-Ok-None, in-Err}

pub returns-clause-answered : goal.returns-clause-answered
returns-clause-answered g c = λ kept held.
    let found = command_of (map string_bytes c.args.words.now) in
    let code_is : c.code.result ≡ code_of c.match-read_words.status = c.code.ensures in
    elim c.match-read_words.branch [
      | in-Ok-Some w ↦
          (let named : Some (plain_command w.in-Ok-Some.command) ≡ found = search (rules, w.in-Ok-Some.ensures) in
          answered_in_run g.H.Shelf g.O.Sink (plain_command w.in-Ok-Some.command) c.args.shelf.now c.match-read_words.shelf c.args.out.now
          c.match-read_words.out found c.match-read_words.status c.code.result named code_is
          (rw (w.shelf-is, w.out-is, w.status-is) w.obey-status.ensures) kept held)
      | in-Ok-None w ↦
          (let unnamed : None ≡ found = search (rules, w.in-Ok-None.ensures) in
          answered_without_command (g.H.Shelf.texts c.args.shelf.now) found c.code.result unnamed (code_is ∙ ap code_of w.status-is))
      | in-Err w ↦ answered_without_memory (g.H.Shelf.texts c.args.shelf.now) found c.code.result (code_is ∙ ap code_of w.status-is)
    ]

pub returns-clause-refused : goal.returns-clause-refused
returns-clause-refused g c = λ kept.
    let found = command_of (map string_bytes c.args.words.now) in
    let code_is : c.code.result ≡ code_of c.match-read_words.status = c.code.ensures in
    elim c.match-read_words.branch [
      | in-Ok-Some w ↦
          (let named : Some (plain_command w.in-Ok-Some.command) ≡ found = search (rules, w.in-Ok-Some.ensures) in
          refused_in_run g.H.Shelf g.O.Sink (plain_command w.in-Ok-Some.command) c.args.shelf.now c.match-read_words.shelf c.args.out.now
          c.match-read_words.out found c.match-read_words.status c.code.result named code_is
          (rw (w.shelf-is, w.out-is, w.status-is) w.obey-status.ensures) kept)
      | in-Ok-None w ↦
          (let unnamed : None ≡ found = search (rules, w.in-Ok-None.ensures) in
          refused_without_command (g.H.Shelf.texts c.args.shelf.now) found c.code.result unnamed (code_is ∙ ap code_of w.status-is))
      | in-Err w ↦ refused_without_memory (g.H.Shelf.texts c.args.shelf.now) found c.code.result (code_is ∙ ap code_of w.status-is)
    ]

pub returns-clause-unasked : goal.returns-clause-unasked
returns-clause-unasked g c =
    let found = command_of (map string_bytes c.args.words.now) in
    elim c.match-read_words.branch [
      | in-Ok-Some w ↦
          (let named : Some (plain_command w.in-Ok-Some.command) ≡ found = search (rules, w.in-Ok-Some.ensures) in
          let ends : Ends g.H.Shelf g.O.Sink (plain_command w.in-Ok-Some.command) c.args.shelf.now c.match-read_words.shelf c.args.out.now
          c.match-read_words.out c.match-read_words.status = rw (w.shelf-is, w.out-is, w.status-is) w.obey-status.ensures in
          subst (λ (f : Option PlainCommand). IfSample f (λ n. c.match-read_words.shelf ≡ c.args.shelf.now)) named ends.unasked)
      | in-Ok-None w ↦ of_each_sample found (λ n. w.shelf-is)
      | in-Err w ↦ of_each_sample found (λ n. w.shelf-is)
    ]
