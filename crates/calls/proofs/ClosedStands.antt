-- Where a check closes its rows stay as told: row 1 is kept, sums are not written, and signatures that were told are those that are filled.
use Rattle.std.proofs.Common.{◌≡◌, ℕ, ◌≤◌, ◌⊎◌, List, sym, ◌∙◌, subst, inl, inr, arith}
use Rattle.field.specs.Field.{Ops}
use Rattle.algebra.specs.Vectors.{Page}
use Rattle.refusal.specs.Rules.{Within}
use Rattle.wire.specs.declared.asked.Asked.{Asked}
use Rattle.wire.specs.declared.asked.Asked.TheVariants.{Sums, Signatures}
use Rattle.scheme.specs.Farm.{Table, Same}
use Rattle.scheme.specs.Askings.{Outcome, over, split, filled, asks}
use Rattle.scheme.specs.Weighing.{Weighs}
use Rattle.scheme.specs.Settling.{SettlesThree, Settles}
use Rattle.tally.specs.Rows.{sum_in, signature_in, sum_place, Filled}
use Rattle.calls.specs.declared.terms.Terms.{Terms}
use Rattle.calls.specs.declared.phases.Verdict.{Verdict}
use Rattle.calls.specs.declared.phases.Verdict.TheVariants.{Report, Split, Over}
use Rattle.calls.specs.declared.phases.Way.TheVariants.{ByWeighing, BySettling}
use Rattle.calls.specs.Questions.{PlainTerms}
use Rattle.calls.specs.Closing.{WeighEnds, SettleEnds, ClosesWith}
use Rattle.calls.specs.Runs.{Stage, first, second, closed, Call}
use Rattle.calls.specs.Replies.{Replied, FirstAsked, SecondAsked, AskedFor}
use Rattle.calls.proofs.Indices.{Index}
use Rattle.calls.proofs.Stands.{Stands, places_apart}

-- ── row 1 stays the own copy
three_row : (f : Ops) (N bound : ℕ) (T U : Table) (own : ℕ → ℕ) (R : Table) → SettlesThree f N bound T U own (filled R) → (n : ℕ) → Page N n → R 1 n ≡ own n
three_row f N bound T U own R x n p = x.6 1 n (omega arith) p

weighed_row : (f : Ops) (M N bound : ℕ) (T : Table) (own : ℕ → ℕ) (R : Table) → Weighs f M N bound T own (filled R) → (n : ℕ) → Page N n → R 1 n ≡ own n
weighed_row f M N bound T own R (inl x) n p = x.1.3 1 n (omega (arith, x.0)) p
weighed_row f M N bound T own R (inr x) n p = three_row f N bound T T own R x.1.1 n p

settled_row : (f : Ops) (M N bound : ℕ) (T U : Table) (own : ℕ → ℕ) (R : Table) → Settles f M N bound T U own (filled R) → (n : ℕ) → Page N n → R 1 n ≡ own n
settled_row f M N bound T U own R (inl x) n p = x.1.5 1 n (omega (arith, x.0)) p
settled_row f M N bound T U own R (inr x) n p = three_row f N bound T U own R x.1 n p

-- what rows that are filled keep of P: row 1, and in a plain check all
abbrev pub KeepsRows : Terms → Table → Outcome → Type 0
KeepsRows t P over = Unit {0}
KeepsRows t P (split n) = Unit {0}
KeepsRows t P (filled R) = ((n : ℕ) → Page t.farm.pages n → R 1 n ≡ P 1 n) × ((¬ PlainTerms t) ⊎ Same t.farm.stations t.farm.pages R P)
KeepsRows t P (asks k) = Unit {0}

pub weigh_keeps : (f : Ops) (t : Terms) (tally : List ℕ) (o : Outcome) → WeighEnds f t tally o → KeepsRows t (signature_in tally t.farm.pages) o
weigh_keeps f t tally o (inl x) =
    subst (KeepsRows t (signature_in tally t.farm.pages)) (sym x.1) ((λ n p. x.3 1 n (omega (arith, t.farm.stations_in.0)) p), inr x.3)
weigh_keeps f t tally over (inr x) = tt
weigh_keeps f t tally (split n) (inr x) = tt
weigh_keeps f t tally (filled R) (inr (not, w)) =
    (weighed_row f t.farm.stations t.farm.pages t.farm.bound (sum_in tally t.farm.pages) (signature_in tally t.farm.pages 1) R w, inl not)
weigh_keeps f t tally (asks k) (inr x) = tt

pub settle_keeps : (f : Ops) (t : Terms) (tally : List ℕ) → ¬ PlainTerms t → (o : Outcome) → SettleEnds f t tally o → KeepsRows t (signature_in tally t.farm.pages) o
settle_keeps f t tally not over x = tt
settle_keeps f t tally not (split n) x = tt
settle_keeps f t tally not (filled R) (inl w) =
    (weighed_row f t.farm.stations t.farm.pages t.farm.bound (sum_in tally t.farm.pages) (signature_in tally t.farm.pages 1) R w, inl not)
settle_keeps f t tally not (filled R) (inr x) =
    (settled_row f t.farm.stations t.farm.pages t.farm.bound (sum_in tally t.farm.pages) (sum_in tally t.farm.pages) (signature_in tally t.farm.pages 1) R x.1, inl not)
settle_keeps f t tally not (asks k) x = tt

-- signatures are asked for in a plain check alone
first_plain : (t : Terms) (i : ℕ) → FirstAsked t Signatures i → PlainTerms t
first_plain t i (inl x) = x.0
first_plain t i (inr x) = absurd (let a = x.1 in cc)

second_sums : (t : Terms) (k s i : ℕ) → SecondAsked t k Signatures s i → ⊥
second_sums t k s i x = let a = x.1 in cc

pub signatures_plain : (t : Terms) (g : Stage) (s i : ℕ) → AskedFor t g Signatures s i → PlainTerms t
signatures_plain t first s i d = first_plain t i d
signatures_plain t (second k) s i (inl d) = first_plain t i d
signatures_plain t (second k) s i (inr d) = absurd (second_sums t k s i d)
signatures_plain t (closed ByWeighing v) s i d = first_plain t i d
signatures_plain t (closed (BySettling k) v) s i (inl d) = first_plain t i d
signatures_plain t (closed (BySettling k) v) s i (inr d) = absurd (second_sums t k s i d)

module _ (f : Ops) (own : List ℕ) (t : Terms) (ks : List Call)
    (due : (a : Asked) (s i v : ℕ) → Replied ks a s i v → Within 2 t.farm.stations s × Index a t.farm.pages i)
    (plain : (s n v : ℕ) → Replied ks Signatures s n v → PlainTerms t)
    (before after : List ℕ) (stands : Stands f own t ks before) where
  module _ (R : Table) (x : Filled t.farm.stations t.farm.pages before after R) (keeps : KeepsRows t (signature_in before t.farm.pages) (filled R)) where
    sum_kept : (s j : ℕ) → 1 ≤ s → Page 128 j → sum_in after t.farm.pages s j ≡ sum_in before t.farm.pages s j
    sum_kept s j lo p =
        x.rest (sum_place t.farm.pages s j) (λ r n st pg. places_apart Sums Signatures t.farm.pages s r j n lo st.0 p pg (λ is kind. absurd (cc kind)))

    filled_stands : Stands f own t ks after
    filled_stands = record {
      room = omega (arith, stands.room, x.size);
      told = record {
        own_row = λ n p. x.rows 1 n (omega (arith, t.farm.stations_in.0)) p ∙ keeps.0 n p ∙ stands.told.own_row n p;
        own_sums = λ j p. sum_kept 1 j (omega arith) (omega (arith, p, t.farm.bound_in.1)) ∙ stands.told.own_sums j p;
        sums = λ s j v r. let d = due Sums s j v r in sum_kept s j (omega (arith, d.0)) d.1 ∙ stands.told.sums s j v r;
        signatures = λ s n v r.
            let d = due Signatures s n v r in
            let st : Within 1 t.farm.stations s = omega (arith, d.0) in
            let kept : R s n ≡ signature_in before t.farm.pages s n = elim keeps.1 [ inl not ↦ absurd (not (plain s n v r)) | inr same ↦ same s n st d.1 ] in
            x.rows s n st d.1 ∙ kept ∙ stands.told.signatures s n v r;
      };
    }

  same_tally : after ≡ before → Stands f own t ks after
  same_tally e = subst (Stands f own t ks) (sym e) stands

  pub finds_stands : (Ends : Outcome → Type 0) → ((o : Outcome) → Ends o → KeepsRows t (signature_in before t.farm.pages) o) → (v : Verdict)
      → ClosesWith Ends t.farm.stations t.farm.pages before after v → Stands f own t ks after
  finds_stands Ends keeps Over x = same_tally x.1
  finds_stands Ends keeps (Split n) (inl x) = same_tally x.1
  finds_stands Ends keeps (Split n) (inr x) = filled_stands x.0 x.2 (keeps (filled x.0) x.1)
  finds_stands Ends keeps Report x = filled_stands x.0 x.2 (keeps (filled x.0) x.1)
