-- What the stations of a steady farm hold is as their replies told it.
use Rattle.std.proofs.Common.{◌≡◌, ℕ, suc, ◌-◌, ◌<◌, List, [], ◌∷◌, map, length, drop, get_or, Ok, Err, sym, ap, ◌∙◌, subst, inl, inr, arith}
use Rattle.std.proofs.lemmas.List.{get_or-map, get_or_past}
use Rattle.std.proofs.lemmas.List.FromFn.{get_or-map-range_with_len}
use native.Mathlib.Decide.{dec_lt}
use Rattle.field.specs.Field.{Ops, Laws}
use Rattle.field.specs.Sums.{entry, power_sum}
use Rattle.algebra.specs.Vectors.{Codes}
use Rattle.refusal.specs.Rules.{Within}
use Rattle.wire.specs.Words.{word, value_of}
use Rattle.wire.specs.Requests.{values_due}
use Rattle.wire.specs.declared.asked.Asked.{Asked}
use Rattle.wire.specs.declared.asked.Asked.TheVariants.{Sums, Signatures}
use Rattle.wire.specs.declared.request.Request.{Request}
use Rattle.station.specs.Serving.{answer, answers}
use Rattle.station.proofs.Ends.{ends_agree}
use Rattle.scheme.specs.Farm.{Station}
use Rattle.calls.specs.declared.terms.Terms.{Terms}
use Rattle.calls.specs.Runs.{Call, slip, take, return, weigh, settle, list}
use Rattle.calls.specs.Steady.{FarmHolds, copies, sums, Yields, AllYielded}
use Rattle.calls.specs.Replies.{Gives, Replied, AsTold}

-- a row of codes has codes past its end too
all_codes : (f : Ops) (l : Laws f) (row : List ℕ) → Codes f (length row) (entry row) → (k : ℕ) → entry row k < f.size
all_codes f l row codes k = elim (dec_lt (k - 1) (length row)) [
  | yes h ↦
      let is : suc (k - 1) - 1 ≡ k - 1 = omega arith in
      subst (λ i. get_or row i 0 < f.size) is (codes (suc (k - 1)) (omega arith))
  | no past ↦ omega (arith, l.size_least, get_or_past row (k - 1) 0 (omega arith))
]

-- a value of a reply is what the station answers
value_given : (f : Ops) → Laws f → (row : List ℕ) → ((k : ℕ) → entry row k < f.size) → (q : Request) (i : ℕ) → Within q.first q.last i
    → value_of (get_or (map (word 6) (answers f row q)) (i - q.first) 0) ≡ answer f row q.asked i
value_given f l row codes q i w =
    let ends = ends_agree f l row codes q in
    let values = map (word 6) (answers f row q) in
    let k = i - q.first in
    sym (get_or-map value_of values k 0 0 (omega (arith, ends.1.count, w)))
    ∙ ap (λ xs. get_or xs k 0) ends.2
    ∙ get_or-map-range_with_len (answer f row q.asked) q.first (values_due q) k i 0 (omega (arith, w)) (omega (arith, w))

module _ (f : Ops) (l : Laws f) (holds : ℕ → List ℕ) (M N : ℕ) (farm : FarmHolds f M N holds) where
  -- of one call
  call_yielded : (c : Call) → Yields f holds c → (a : Asked) (s i v : ℕ) → Station M s → Gives c a s i v → answer f (holds s) a i ≡ v
  call_yielded (take p w t (Ok u) t') words a s i v st r =
      subst (λ a. answer f (holds s) a i ≡ v) r.1
      (subst (λ s. answer f (holds s) p.request.asked i ≡ v) r.0
      (sym (value_given f l (holds p.request.station) codes p.request i r.2)
      ∙ ap (λ w. value_of (get_or (drop 4 w) (i - p.request.first) 0)) (sym words) ∙ r.3))
    where
      here : Station M p.request.station
      here = subst (Station M) (sym r.0) st

      codes : (k : ℕ) → entry (holds p.request.station) k < f.size
      codes =
          let row = holds p.request.station in
          all_codes f l row (subst (λ n. (k : ℕ) → Within 1 n k → entry row k < f.size) (sym (farm.pages p.request.station here)) (farm.codes p.request.station here))
  call_yielded (take p w t (Err e) t') words a s i v st r = absurd r
  call_yielded (slip y q r q') words a s i v st g = absurd g
  call_yielded (return p r) words a s i v st g = absurd g
  call_yielded (weigh t t') words a s i v st g = absurd g
  call_yielded (settle t t') words a s i v st g = absurd g
  call_yielded (list y t o r o') words a s i v st g = absurd g

  all_yielded : (ks : List Call) → AllYielded f holds ks → (a : Asked) (s i v : ℕ) → Station M s → Replied ks a s i v → answer f (holds s) a i ≡ v
  all_yielded [] y a s i v st r = absurd r
  all_yielded (c ∷ ks) y a s i v st (inl r) = call_yielded c y.0 a s i v st r
  all_yielded (c ∷ ks) y a s i v st (inr r) = all_yielded ks y.1 a s i v st r

pub yielded_told : (f : Ops) → Laws f → (holds : ℕ → List ℕ) (t : Terms) → FarmHolds f t.farm.stations t.farm.pages holds → (own : List ℕ) → own ≡ holds 1 → (ks : List Call)
    → ((a : Asked) (s i v : ℕ) → Replied ks a s i v → Station t.farm.stations s) → AllYielded f holds ks → AsTold f own t ks (sums f t.farm.pages holds) (copies holds)
yielded_told f l holds t farm own same ks within yields = record {
  own_row = λ n p. ap (λ row. entry row n) (sym same);
  own_sums = λ j p. ap (λ row. power_sum f t.farm.pages (entry row) j) (sym same);
  sums = λ s j v r.
      let st = within Sums s j v r in
      ap (λ n. power_sum f n (entry (holds s)) j) (sym (farm.pages s st)) ∙ all_yielded f l holds t.farm.stations t.farm.pages farm ks yields Sums s j v st r;
  signatures = λ s n v r. all_yielded f l holds t.farm.stations t.farm.pages farm ks yields Signatures s n v (within Signatures s n v r) r;
}
