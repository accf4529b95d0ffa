-- Lists of rules.
use Rattle.std.proofs.Common.{List, [], ◌∷◌, inl, inr}
use Rattle.refusal.specs.Rules.{Rule, Exclusive}

-- no list of rules both accepts and refuses
pub exclusive : (rules : List Rule) → Exclusive rules
exclusive [] r accepted refused = refused
exclusive (x ∷ xs) r accepted refused =
    elim refused [ inl due ↦ x.apart r accepted.0 due | inr later ↦ exclusive xs r accepted.1 later.1 ]
