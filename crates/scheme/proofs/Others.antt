-- Differences that are the same but for one station's: their groups, what they settle, and the rows.
use mathlib.Core.Path.{◌≡◌, sym, ap, ap₂, ◌∙◌}
use mathlib.Core.Bool.{cond}
use mathlib.Core.Logic.{◌≢◌}
use Prim.Native.Nat.{ℕ, ◌≤◌}
use native.Mathlib.Omega.{arith}
use native.Mathlib.Decide.{ℕ_discrete}
use lib.Dec.{eqb}
use borrow.Author.Tests.{eq-eqb, ne_eqb}
use Rattle.field.specs.Field.{Ops}
use Rattle.algebra.specs.Vectors.{Page}
use Rattle.scheme.specs.Farm.{Table, Station, count, agree}
use Rattle.scheme.specs.Differences.{Gaps, gap}
use Rattle.scheme.specs.Four.{except, group_of_others, lead_of_others, Scattered, Fails, beside, FromLeads, row_from_leads}
use Rattle.scheme.proofs.Counts.{agree_same, count_same, count_one, except_at, except_other, except_same, top_page, top_most, top_same}
use Rattle.scheme.proofs.Codes.{power_sum_same}

-- E and G are the same between the stations other than i
abbrev pub AgreeBut : (M N i : ℕ) (E G : Gaps) → Type 0
AgreeBut M N i E G = (s t n : ℕ) → Station M s → Station M t → s ≢ i → t ≢ i → Page N n → E s t n ≡ G s t n

pub beside_is : (M i : ℕ) → 2 ≤ M → Station M (beside i) × (beside i ≢ i)
beside_is M i two = elim (ℕ_discrete i 1) [
  | yes e ↦ let h : beside i ≡ 2 = ap (λ b. cond b 2 1) (eq-eqb i 1 e) in (omega arith, omega arith)
  | no d ↦ let h : beside i ≡ 1 = ap (λ b. cond b 2 1) (ne_eqb i 1 d) in (omega arith, omega arith)
]

pub lead_station : (M : ℕ) (E : Gaps) (i n : ℕ) → 2 ≤ M → Station M (lead_of_others M E i n)
lead_station M E i n two = top_page (group_of_others M E i n) M (omega arith)

-- a station that agrees with itself has a group, so the lead is not i
pub lead_other : (M : ℕ) (E : Gaps) (i n s : ℕ) → Station M s → s ≢ i → E s s n ≡ 0 → lead_of_others M E i n ≢ i
lead_other M E i n s b d z e =
    omega (
      arith,
      top_most (group_of_others M E i n) M s b,
      ap (group_of_others M E i n) e,
      except_at i (λ s. count M (except i (λ t. agree (E t s n) 0))),
      except_other i (λ s. count M (except i (λ t. agree (E t s n) 0))) s d,
      count_one M s (except i (λ t. agree (E t s n) 0)) b,
      except_other i (λ t. agree (E t s n) 0) s d,
      agree_same (E s s n) 0 z,
    )

module _ (M N i : ℕ) (two : 2 ≤ M) (E G : Gaps) (same : AgreeBut M N i E G) where
  group_same : (n s : ℕ) → Page N n → Station M s → group_of_others M E i n s ≡ group_of_others M G i n s
  group_same n s p b =
      except_same i (λ s. count M (except i (λ t. agree (E t s n) 0))) (λ s. count M (except i (λ t. agree (G t s n) 0))) s (λ si.
      count_same M (except i (λ t. agree (E t s n) 0)) (except i (λ t. agree (G t s n) 0)) (λ t c.
      except_same i (λ t. agree (E t s n) 0) (λ t. agree (G t s n) 0) t (λ ti. ap (λ z. agree z 0) (same t s n c b ti si p))))

  pub lead_same : (n : ℕ) → Page N n → lead_of_others M E i n ≡ lead_of_others M G i n
  lead_same n p = top_same _ _ M (omega arith) (λ s b. group_same n s p b)

  pub scattered_same : (n : ℕ) → Page N n → Scattered M E i n → Scattered M G i n
  scattered_same n p l =
      omega (arith, l, group_same n (lead_of_others M E i n) p (lead_station M E i n two), ap (group_of_others M G i n) (lead_same n p))

  pub fails_same : (f : Ops) → Fails f M N E i → Fails f M N G i
  fails_same f x =
      let a = x.stations in let o = x.others in
      record {
        s = x.s;
        t = x.t;
        u = x.u;
        n = x.n;
        stations = a;
        others = o;
        page = x.page;
        wrong = λ e.
            let st = same x.s x.t x.n (omega arith) (omega arith) o.0 o.1 x.page in
            let tu = same x.t x.u x.n (omega arith) (omega arith) o.1 o.2 x.page in
            let su = same x.s x.u x.n (omega arith) (omega arith) o.0 o.2 x.page in
            x.wrong (ap₂ f.plus st tu ∙ e ∙ sym su);
      }

  module _ (self : (s n : ℕ) → Station M s → s ≢ i → Page N n → G s s n ≡ 0) where
    lead_not : (n : ℕ) → Page N n → lead_of_others M G i n ≢ i
    lead_not n p = let b = beside_is M i two in lead_other M G i n (beside i) b.0 b.1 (self (beside i) n b.0 b.1 p)

    -- the same of one station and the lead
    at_lead : (s n : ℕ) → Station M s → s ≢ i → Page N n
        → (E s (lead_of_others M E i n) n ≡ G s (lead_of_others M G i n) n) × (E (lead_of_others M E i n) s n ≡ G (lead_of_others M G i n) s n)
    at_lead s n a si p =
        let g = lead_station M G i n two in (
          ap (λ g. E s g n) (lead_same n p) ∙ same s (lead_of_others M G i n) n a g si (lead_not n p) p,
          ap (λ g. E g s n) (lead_same n p) ∙ same (lead_of_others M G i n) s n g a (lead_not n p) si p,
        )

    pub from_leads_same : (f : Ops) (bound : ℕ) (T : Table) (e : ℕ → ℕ) → FromLeads f M N bound T E i e → FromLeads f M N bound T G i e
    from_leads_same f bound T e x =
        let b = beside_is M i two in
        record {
          codes = x.codes;
          light = x.light;
          sums = λ j c. x.sums j c ∙ ap (f.plus (gap f T i (beside i) j)) (power_sum_same f N _ _ (λ n p. (at_lead (beside i) n b.0 b.1 p).0) j);
        }

    pub row_same : (f : Ops) (own d e : ℕ → ℕ) → ((n : ℕ) → Page N n → d n ≡ e n) → (t n : ℕ) → Station M t → Page N n
        → row_from_leads f M own E i d t n ≡ row_from_leads f M own G i e t n
    row_same f own d e de t n a p = go (ℕ_discrete i 1) (ℕ_discrete t i)
      where
        -- where t is 1, both are own
        row : (x y : ℕ) → (t ≢ 1 → x ≡ y) → cond (eqb t 1) (own n) (f.minus (own n) x) ≡ cond (eqb t 1) (own n) (f.minus (own n) y)
        row x y h = elim (ℕ_discrete t 1) [
          | yes is ↦ rw (eq-eqb t 1 is)
          | no k ↦ ap (λ z. cond (eqb t 1) (own n) (f.minus (own n) z)) (h k)
        ]

        go : Dec (i ≡ 1) → Dec (t ≡ i) → row_from_leads f M own E i d t n ≡ row_from_leads f M own G i e t n
        go (yes i1) _ = row _ _ (λ t1. rw (eq-eqb i 1 i1) (ap₂ f.plus (de n p) (at_lead t n a (λ ti. t1 (ti ∙ i1)) p).1))
        go (no i1) (yes ti) =
            row _ _ (λ t1. rw (ne_eqb i 1 i1, eq-eqb t i ti) (ap₂ f.minus (at_lead 1 n (omega arith) (λ z. i1 (sym z)) p).0 (de n p)))
        go (no i1) (no ti) = row _ _ (λ t1. rw (ne_eqb i 1 i1, ne_eqb t i ti) (same 1 t n (omega arith) a (λ z. i1 (sym z)) ti p))
