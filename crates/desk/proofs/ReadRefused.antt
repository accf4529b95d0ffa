-- The line of a refused farm is short.
use Rattle.std.proofs.Common.{ℕ, ◌<◌, ◌≤◌, ◌^◌, List, length, inl, inr, arith}
use Rattle.refusal.specs.declared.Refusal.{Refusal}
use Rattle.refusal.specs.Rules.{Refused}
use Rattle.lines.specs.Text.{refusal_line}
use Rattle.lines.proofs.Short.{refusal_line_short}
use Rattle.desk.specs.Findings.{reading}

pub refused_short : (input : List ℕ) → length input < 2 ^ 63 → (e : Refusal) → Refused (reading input) e → length (refusal_line e) ≤ 32
refused_short input fits e (inl x) = refusal_line_short e (omega (arith, x.2))
refused_short input fits e (inr (_, inl x)) = refusal_line_short e (omega (arith, x.2))
refused_short input fits e (inr (_, inr (_, inl x))) = refusal_line_short e (omega (arith, x.2))
refused_short input fits e (inr (_, inr (_, inr (_, inl x)))) = refusal_line_short e (omega (arith, x.2))
refused_short input fits e (inr (_, inr (_, inr (_, inr (_, inl x))))) = refusal_line_short e (omega (arith, x.2))
refused_short input fits e (inr (_, inr (_, inr (_, inr (_, inr x))))) = absurd x.1
