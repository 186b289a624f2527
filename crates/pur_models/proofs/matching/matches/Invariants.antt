use Rattle.std.proofs.Common.{map, drop}
use Rattle.pur_models.specs.Images.{way_of, ways_of}
use Rattle.pur_models.specs.Languages.{IsInLanguage}
use Rattle.pur_models.proofs.matching.matches.Given as goal

abbrev pub invariant-loop-way : goal.invariant-loop-way
invariant-loop-way l =
    IsInLanguage (ways_of l.model) l.word → IsInLanguage (map way_of (drop l.way-index l.model.ways.items)) l.word
