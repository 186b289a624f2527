-- At most one status is true of an input.
use Rattle.std.proofs.Common.{◌≡◌, ◌⊎◌, ◌∙◌, ℕ, List, refl, sym, inl, inr}
use Rattle.pur_settings.specs.Rules.{Rules}
use Rattle.pur_uripolicy.specs.HostRules.{PlainHostRule}
use Rattle.pur_validity.specs.Goodness.{IsGood}
use Rattle.pur_cli.specs.Verdicts.{IsVerdict, SpellNodes}
use Rattle.pur_commands.specs.declared.status.Status.{Status}
use Rattle.pur_commands.specs.declared.status.Status.TheVariants.{Done, OutOfMemory, BadCommandLine, SpellingFault, ValidityFault, SettingsRefused, InputTooLong, CannotRead, CannotWrite}

-- the nodes of a good fragment are low
spelled : {rules : Rules} {rule : PlainHostRule} {input : List ℕ} → IsGood rules rule input → SpellNodes input
spelled good = record { nodes = good.nodes; low = good.valid.low; spelled = good.spelled }

module _ (rules : Rules) (rule : PlainHostRule) (input : List ℕ) where
  -- a status that is true of the input is one of three
  which : (s : Status) → IsVerdict rules rule input s
      → ((s ≡ Done) × IsGood rules rule input) ⊎ (((s ≡ SpellingFault) × ¬ SpellNodes input)
      ⊎ ((s ≡ ValidityFault) × (SpellNodes input × ¬ IsGood rules rule input)))
  which Done v = inl (refl, v)
  which SpellingFault v = inr (inl (refl, v))
  which ValidityFault v = inr (inr (refl, v))
  which OutOfMemory v = absurd v
  which BadCommandLine v = absurd v
  which SettingsRefused v = absurd v
  which InputTooLong v = absurd v
  which CannotRead v = absurd v
  which CannotWrite v = absurd v

  pub one_verdict : (s t : Status) → IsVerdict rules rule input s → IsVerdict rules rule input t → s ≡ t
  one_verdict s t v w = go (which s v) (which t w)
    where
      go : ((s ≡ Done) × IsGood rules rule input) ⊎ (((s ≡ SpellingFault) × ¬ SpellNodes input)
          ⊎ ((s ≡ ValidityFault) × (SpellNodes input × ¬ IsGood rules rule input)))
          → ((t ≡ Done) × IsGood rules rule input) ⊎ (((t ≡ SpellingFault) × ¬ SpellNodes input)
          ⊎ ((t ≡ ValidityFault) × (SpellNodes input × ¬ IsGood rules rule input))) → s ≡ t
      go (inl a) (inl b) = a.0 ∙ sym b.0
      go (inl a) (inr (inl b)) = absurd (b.1 (spelled a.1))
      go (inl a) (inr (inr b)) = absurd (b.1.1 a.1)
      go (inr (inl a)) (inl b) = absurd (a.1 (spelled b.1))
      go (inr (inl a)) (inr (inl b)) = a.0 ∙ sym b.0
      go (inr (inl a)) (inr (inr b)) = absurd (a.1 b.1.0)
      go (inr (inr a)) (inl b) = absurd (a.1.1 b.1)
      go (inr (inr a)) (inr (inl b)) = absurd (b.1 a.1.0)
      go (inr (inr a)) (inr (inr b)) = a.0 ∙ sym b.0
