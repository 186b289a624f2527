use Rattle.pur_wellform.proofs.LedgerFacts.{ledger}
use Rattle.pur_wellform.proofs.laws.closed_ledger.Goals as goal

pub returns : goal.returns
returns c = ledger
