use Rattle.std.proofs.Common.{ℕ, ◌<◌, subst, sym, arith}
use Rattle.std.proofs.Math.Decide.{ℕ_discrete}
use Rattle.field.specs.Sums.{entry}
use Rattle.station.proofs.Told.{told}
use Rattle.station.proofs.theorems.holds_codes.Goals as goal

pub loop-page-init : goal.loop-page-init
loop-page-init g c = λ k lo hi. absurd (omega arith)

pub loop-page-preserved : goal.loop-page-preserved
loop-page-preserved g c = λ k lo hi. elim (ℕ_discrete k c.loop-page.page) [
  | yes e ↦ subst (λ (n : ℕ). entry (g.S.Station.row c.args.station.now) n < g.F.Field.ops.size) (sym e) (subst (λ (x : ℕ). x < g.F.Field.ops.size) c.ask-code.ensures.value c.ask-code.ensures.code)
  | no d ↦ c.loop-page.invariant k lo (omega arith)
]

pub returns : goal.returns
returns g c = told g.met.F.Field.lawful _ (λ k lo hi. absurd (omega (arith, c.page_count-page-end.ensures)))

pub returns-2 : goal.returns-2
returns-2 g c = told g.met.F.Field.lawful _ (λ k lo hi. elim (ℕ_discrete k c.loop-page.page) [
  | yes e ↦ subst (λ (n : ℕ). entry (g.S.Station.row c.args.station.now) n < g.F.Field.ops.size) (sym e) (subst (λ (x : ℕ). x < g.F.Field.ops.size) c.ask-code.ensures.value c.ask-code.ensures.code)
  | no d ↦ c.loop-page.invariant k lo (omega (arith, c.page_count-page-end.ensures))
])
