-- From what solving answers of the first values of an array to what is answered of a difference.
use Rattle.std.proofs.Common.{◌≡◌, ℕ, ◌+◌, ◌-◌, ◌<◌, ◌≤◌, List, length, get_or, take, length-take-le, get_or-take, Some, None, Option, sym, ap, subst, inl, inr, arith}
use Rattle.std.proofs.lemmas.List.{get_or_past}
use native.Mathlib.Decide.{dec_le}
use Rattle.field.specs.Field.{Ops, Laws, page_limit}
use Rattle.field.specs.Sums.{entry}
use Rattle.refusal.specs.declared.Refusal.{Refusal}
use Rattle.refusal.specs.Rules.{Within, Refused}
use Rattle.solve.specs.declared.Entry.{Entry}
use Rattle.solve.specs.Answer.{Answer}
use Rattle.solve.specs.Solution.{Enough, solving}
use Rattle.solve.proofs.Values.{list_solves, list_weighs, unsolved}
use Rattle.pairs.specs.Difference.{AnsweredBy}

-- the first J values are handed over
module _ (f : Ops) (N w J : ℕ) (values : List ℕ) (room : J ≤ length values) where
  long : length (take J values) ≡ J
  long = length-take-le J values room

  are : (i : ℕ) → i < J → get_or values i 0 ≡ entry values (i + 1)
  are i lt = ap (λ k. get_or values k 0) (let e : i ≡ i + 1 - 1 = omega arith in e)

  -- codes are not refused
  pub never : Laws f → Within 1 (page_limit f) N → Enough N w J → ((k : ℕ) → k < J → get_or values k 0 < f.size) → (r : Refusal) →
      Refused (solving f N w (take J values)) r → ⊥
  never l narrow enough code r (inl x) = x.0 narrow
  never l narrow enough code r (inr (_, inl x)) = x.0 (subst (Enough N w) (sym long) enough)
  never l narrow enough code r (inr (_, inr (_, inl x))) = no_code x.1.0 x.1.1
    where
      no_code : {j : ℕ} → 1 ≤ j → f.size ≤ entry (take J values) j → ⊥
      no_code {j} b big = elim (dec_le j J) [
        | yes k ↦ omega (arith, get_or-take J values (j - 1) 0 (omega arith), code (j - 1) (omega arith))
        | no k ↦ (let n = long in omega (arith, get_or_past (take J values) (j - 1) 0 (omega arith), l.size_least))
      ]
  never l narrow enough code r (inr (_, inr (_, inr x))) = x.1

  pub answered : (before after : List Entry) (o : Option ℕ) → Answer f N w (take J values) before after o → AnsweredBy f N w J (entry values) o after
  answered before after (Some m) h = record {
    listed = h.listed;
    solves = list_solves f N w J values (entry values) room are m after h;
    weighs = list_weighs f N w J values (entry values) room are m after h;
  }
  answered before after None h = unsolved f N w J values (entry values) room are h.0
