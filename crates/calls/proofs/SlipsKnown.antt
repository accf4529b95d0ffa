-- At every moment of every run a check knows of its slips what was done about their requests.
use Rattle.std.proofs.Common.{◌≡◌, ℕ, ◌<◌, ◌⊎◌, ◌↔◌, List, ◌∷◌, length, set, Ok, Err, refl, sym, ap, ◌∙◌, subst, inl, inr, arith}
use native.Mathlib.Decide.{ℕ_discrete}
use Rattle.field.specs.Field.{Ops, Laws, Spread}
use Rattle.refusal.specs.Rules.{Within}
use Rattle.wire.specs.declared.request.Request.{Request}
use Rattle.wire.specs.Requests.{Same}
use Rattle.calls.specs.declared.standing.Standing.{Standing}
use Rattle.calls.specs.declared.standing.Standing.TheVariants.{Free, Out, Heard, Done}
use Rattle.calls.specs.declared.slip.Slip.{Slip}
use Rattle.calls.specs.declared.slip.Returned.{Returned}
use Rattle.calls.specs.declared.slip.Returned.TheVariants.{Answered, Blank}
use Rattle.calls.specs.declared.book.Book.{Book}
use Rattle.calls.specs.declared.phases.Way.TheVariants.{ByWeighing, BySettling}
use Rattle.calls.specs.Standings.{SlipOut}
use Rattle.calls.specs.Questions.{PlainTerms, FirstAsks}
use Rattle.calls.specs.Slips.{standing, standing_after, returned_as, OfAsking, OutHere, Keeps}
use Rattle.calls.specs.Closing.{WeighAsks}
use Rattle.calls.specs.Runs.{Stage, first, second, closed, Call, slip, take, return, weigh, settle, Step, Run, slips, takes, returns, weigh_closes, weigh_asks, weigh_refused, settle_closes, settle_refused, lists, opened, called}
use Rattle.calls.specs.States.{IsSlip, IsReply, IsReturn, IsAbout, Newest, AskedBy, HeardBy, DoneBy, AskedAt, SaidRight, SlipsKnown}
use Rattle.calls.proofs.Cleared.{slip_cleared, take_cleared, return_cleared}
use Rattle.calls.proofs.AsksOne.{asks_one}
use Rattle.calls.proofs.FirstSums.{first_sums_between}
use Rattle.calls.proofs.Shapes.{StageAsks, Shape}
use Rattle.calls.proofs.ShapesKept.{shape_kept, all_done}
use Rattle.calls.proofs.StandingsSet.{place_inside, standing_other, standing_same, standing_start, not_free, not_done, heard_if}
use Rattle.calls.proofs.NewestCalls.{slip_about, reply_about, return_about, newest_same, asks_same, moved}

-- requests of the first asking begin with index 1
abbrev EarlyBy : Stage → List Call → Type 0
EarlyBy first ks = (q : Request) → DoneBy ks q → q.first ≡ 1
EarlyBy (second k) ks = Unit {0}
EarlyBy (closed way v) ks = Unit {0}

pub record Known (ks : List Call) (b : Book) (g : Stage) : Type 0 where
  pub asked : (q : Request) → OfAsking b q.station q → (standing b q.station ≡ Out) ↔ AskedBy ks q
  pub heard : (q : Request) → OfAsking b q.station q → (standing b q.station ≡ Heard) ↔ HeardBy ks q
  pub done : (q : Request) → AskedAt g q.station → OfAsking b q.station q → (standing b q.station ≡ Done) ↔ DoneBy ks q
  pub here : (q : Request) → AskedBy ks q ⊎ HeardBy ks q → OfAsking b q.station q
  pub early : EarlyBy g ks

-- a call that is about no request
module _ (b : Book) (c : Call) (ks : List Call) (not : (q : Request) → ¬ IsAbout c q) where
  as_before : (Does : Call → Request → Type 0) → ((c : Call) (q : Request) → Does c q → IsAbout c q) → (q : Request) {A : Type 0} → A ↔ Newest Does ks q → A ↔ Newest Does (c ∷ ks) q
  as_before Does about q old = (λ a. inr (not q, old.0 a), λ n. old.1 (newest_same Does about c ks q (not q) n))

  early_still : (g : Stage) → EarlyBy g ks → EarlyBy g (c ∷ ks)
  early_still first e = λ q d. e q (newest_same (IsReturn Answered) (return_about Answered) c ks q (not q) d)
  early_still (second k) e = tt
  early_still (closed way v) e = tt

  here_still : (q : Request) → AskedBy (c ∷ ks) q ⊎ HeardBy (c ∷ ks) q → AskedBy ks q ⊎ HeardBy ks q
  here_still q (inl n) = inl (newest_same IsSlip slip_about c ks q (not q) n)
  here_still q (inr n) = inr (newest_same IsReply reply_about c ks q (not q) n)

  still : (g g' : Stage) → ((s : ℕ) → AskedAt g' s → AskedAt g s) → EarlyBy g' (c ∷ ks) → Known ks b g → Known (c ∷ ks) b g'
  still g g' up early h = record {
    asked = λ q a. as_before IsSlip slip_about q (h.asked q a);
    heard = λ q a. as_before IsReply reply_about q (h.heard q a);
    done = λ q at a. as_before (IsReturn Answered) (return_about Answered) q (h.done q (up q.station at) a);
    here = λ q n. h.here q (here_still q n);
    early = early;
  }

  unmoved : (g : Stage) (b' : Book) → b' ≡ b → Known ks b g → Known (c ∷ ks) b' g
  unmoved g b' e h = subst (λ b'. Known (c ∷ ks) b' g) (sym e) (still g g (λ s at. at) (early_still g h.early) h)

-- an accepted call about p leaves its station so
record Leaves (c : Call) (p : Request) (y : Standing) : Type 0 where
  about : (q : Request) → IsAbout c q → Same p q
  same : (q : Request) → Same p q → IsAbout c q
  by_slip : (q : Request) → IsSlip c q → Same p q × (y ≡ Out)
  out : (q : Request) → Same p q → y ≡ Out → IsSlip c q
  by_reply : (q : Request) → IsReply c q → Same p q × (y ≡ Heard)
  heard : (q : Request) → Same p q → y ≡ Heard → IsReply c q
  by_return : (q : Request) → IsReturn Answered c q → Same p q × (y ≡ Done)
  done : (q : Request) → Same p q → y ≡ Done → IsReturn Answered c q

module _ (b b' : Book) (s : ℕ) (p : Request) (y : Standing) (keeps : Keeps b b') (is : b'.standings ≡ set b.standings s y) (inside : s < length b.standings)
    (asks : OfAsking b s p) (c : Call) (ks : List Call) (leaves : Leaves c p y) where
  begins_at_one : FirstAsks b.terms b.question → b.question.first ≡ 1
  begins_at_one (inl x) = x.1.1
  begins_at_one (inr x) = x.1.1

  early_first : FirstAsks b.terms b.question → EarlyBy first ks → (q : Request) → DoneBy (c ∷ ks) q → q.first ≡ 1
  early_first x e q (inl d) = let r = leaves.by_return q d in sym r.0.3 ∙ asks.3 ∙ begins_at_one x
  early_first x e q (inr n) = e q n.1

  early_then : (g : Stage) → StageAsks b.terms g b.question → EarlyBy g ks → EarlyBy g (c ∷ ks)
  early_then first x e = early_first x e
  early_then (second k) x e = tt
  early_then (closed way v) x e = tt

  asks_then : (q : Request) → OfAsking b q.station q → OfAsking b' q.station q
  asks_then q a =
      (a.0 ∙ sym (ap (λ t. t.number) keeps.terms), a.1, a.2 ∙ sym (ap (λ t. t.asked) keeps.question), a.3 ∙ sym (ap (λ t. t.first) keeps.question), a.4 ∙ sym (ap (λ t. t.last) keeps.question))

  here_then : (g : Stage) → Known ks b g → (q : Request) → AskedBy (c ∷ ks) q ⊎ HeardBy (c ∷ ks) q → OfAsking b q.station q
  here_then g h q (inl (inl d)) = asks_same b s p q asks (leaves.by_slip q d).0
  here_then g h q (inl (inr n)) = h.here q (inl n.1)
  here_then g h q (inr (inl d)) = asks_same b s p q asks (leaves.by_reply q d).0
  here_then g h q (inr (inr n)) = h.here q (inr n.1)

  acted : (g : Stage) → StageAsks b.terms g b.question → Known ks b g → Known (c ∷ ks) b' g
  acted g question h = record {
    asked = λ q. moved b b' s p y keeps is inside asks c ks leaves.about leaves.same IsSlip Out leaves.by_slip leaves.out q (h.asked q);
    heard = λ q. moved b b' s p y keeps is inside asks c ks leaves.about leaves.same IsReply Heard leaves.by_reply leaves.heard q (h.heard q);
    done = λ q at. moved b b' s p y keeps is inside asks c ks leaves.about leaves.same (IsReturn Answered) Done leaves.by_return leaves.done q (h.done q at);
    here = λ q n. asks_then q (here_then g h q n);
    early = early_then g question h.early;
  }

-- ── the three calls
slip_leaves : (s : ℕ) (w w' : List ℕ) (p : Slip) → Leaves (slip s w (Ok p) w') p.request Out
slip_leaves s w w' p = record {
  about = λ q a. a;
  same = λ q a. a;
  by_slip = λ q d. (d, refl);
  out = λ q a e. a;
  by_reply = λ q d. absurd d;
  heard = λ q a e. cc e;
  by_return = λ q d. absurd d;
  done = λ q a e. cc e;
}

reply_leaves : (w t t' : List ℕ) (p : Slip) (u : Unit {0}) → Leaves (take p w t (Ok u) t') p.request Heard
reply_leaves w t t' p u = record {
  about = λ q a. a;
  same = λ q a. a;
  by_slip = λ q d. absurd d;
  out = λ q a e. cc e;
  by_reply = λ q d. (d, refl);
  heard = λ q a e. a;
  by_return = λ q d. absurd d;
  done = λ q a e. cc e;
}

answered_if : (r : Returned) → standing_after r ≡ Done → r ≡ Answered
answered_if Answered e = refl
answered_if Blank e = cc

never_out : (r : Returned) → ¬ (standing_after r ≡ Out)
never_out Answered e = cc
never_out Blank e = cc

never_heard : (r : Returned) → ¬ (standing_after r ≡ Heard)
never_heard Answered e = cc
never_heard Blank e = cc

return_leaves : (p : Slip) (r : Returned) → Leaves (return p (Ok r)) p.request (standing_after r)
return_leaves p r = record {
  about = λ q a. a;
  same = λ q a. a;
  by_slip = λ q d. absurd d;
  out = λ q a e. absurd (never_out r e);
  by_reply = λ q d. absurd d;
  heard = λ q a e. absurd (never_heard r e);
  by_return = λ q d. (d.0, ap standing_after d.1);
  done = λ q a e. (a, answered_if r e);
}

-- ── the second asking begins: no slip is out, and nothing was done about its requests
module _ (f : Ops) (l : Laws f) (spread : Spread f) (b b' : Book) (k : ℕ) (t t' : List ℕ) (x : WeighAsks f b t k b' t') (shape : Shape f b first)
    (ks : List Call) (h : Known ks b first) where
  asked_one : (¬ PlainTerms b.terms) × Within 2 b.terms.farm.stations k
  asked_one = asks_one f l spread b.terms shape.pages.1 t k x.ends

  none_out : (s : ℕ) → ¬ SlipOut (standing b s)
  none_out s out = not_done (standing b s) out (all_done b (length t) x.accepted s (shape.stations s (not_free (standing b s) out)))

  still_none_out : (s : ℕ) → ¬ SlipOut (standing b' s)
  still_none_out s out = elim (ℕ_discrete s k) [
    | yes e ↦ not_free (standing b' s) out (ap (standing b') e ∙ standing_same b.standings k Free x.again.standings (place_inside b k asked_one.1))
    | no d ↦ none_out s (subst SlipOut (standing_other b.standings k Free x.again.standings s d) out)
  ]

  nobody : (q : Request) → AskedBy (weigh t t' ∷ ks) q ⊎ HeardBy (weigh t t' ∷ ks) q → ⊥
  nobody q (inl (inr n)) = let a = h.here q (inl n.1) in none_out q.station (inl ((h.asked q a).1 n.1))
  nobody q (inr (inr n)) = let a = h.here q (inr n.1) in none_out q.station (inr ((h.heard q a).1 n.1))
  nobody q (inl (inl d)) = absurd d
  nobody q (inr (inl d)) = absurd d

  not_done_yet : (q : Request) → AskedAt (second k) q.station → OfAsking b' q.station q → (standing b' q.station ≡ Done) ↔ DoneBy (weigh t t' ∷ ks) q
  not_done_yet q at asked = (
    λ done. absurd (let free = standing_same b.standings k Free x.again.standings (place_inside b k asked_one.1) in
        let e = ap (standing b') at in cc),
    λ n. absurd (omega (
      arith,
      h.early q (newest_same (IsReturn Answered) (return_about Answered) (weigh t t') ks q (λ a. a) n),
      asked.3,
      x.again.question.1,
      first_sums_between b.terms.farm.stations b.terms.farm.bound b.terms.farm.bound_in.0,
    )),
  )

  begun : Known (weigh t t' ∷ ks) b' (second k)
  begun = record {
    asked = λ q a. ((λ e. absurd (still_none_out q.station (inl e))), λ n. absurd (nobody q (inl n)));
    heard = λ q a. ((λ e. absurd (still_none_out q.station (inr e))), λ n. absurd (nobody q (inr n)));
    done = not_done_yet;
    here = λ q n. absurd (nobody q n);
    early = tt;
  }

-- ── each call
module _ (f : Ops) (l : Laws f) (spread : Spread f) where
  step_known : {b b' : Book} {g g' : Stage} {c : Call} {ks : List Call} → Step f b g c b' g' → Shape f b g → Known ks b g → Known (c ∷ ks) b' g'
  step_known {b = b} {b' = b'} {g = g} {ks = ks} (slips only {s = s} {q = w} {q' = w'} {r = Ok p} asked x) shape h =
      acted b b' s p.request Out x.1.keeps x.1.standings (place_inside b s (slip_cleared b only s (length w) x.0).station) x.1.request _ ks (slip_leaves s w w' p) g shape.question h
  step_known {b = b} {b' = b'} {g = g} {ks = ks} (slips only {r = Err e} asked x) shape h = unmoved b _ ks (λ q a. a) g b' x.1 h
  step_known {b = b} {b' = b'} {g = g} {ks = ks} (takes only {p = p} {w = w} {t = t} {t' = t'} {r = Ok u} asked x) shape h =
      let s = p.request.station in
      let here = (take_cleared f b p.request w (length t) x.0).here in
      acted b b' s p.request Heard x.1.keeps x.1.standings (place_inside b s (shape.stations s (not_free (standing b s) here.1))) here.0 _ ks
      (reply_leaves w t t' p u) g shape.question h
  step_known {b = b} {b' = b'} {g = g} {ks = ks} (takes only {r = Err e} asked x) shape h = unmoved b _ ks (λ q a. a) g b' x.1 h
  step_known {b = b} {b' = b'} {g = g} {ks = ks} (returns {p = p} {r = Ok r} x) shape h =
      let s = p.request.station in
      let here = return_cleared b p.request x.0 in
      acted b b' s p.request (standing_after r) x.1.keeps x.1.standings (place_inside b s (shape.stations s (not_free (standing b s) here.1))) here.0 _ ks
      (return_leaves p r) g shape.question h
  step_known {b = b} {b' = b'} {g = g} {ks = ks} (returns {r = Err e} x) shape h = unmoved b _ ks (λ q a. a) g b' x.1 h
  step_known {b = b} {ks = ks} (weigh_closes {b' = b'} {v = v} {t = t} {t' = t'} x) shape h =
      let c = weigh t t' in
      subst (λ b'. Known (c ∷ ks) b' (closed ByWeighing v)) (sym x.book) (still b c ks (λ q a. a) first (closed ByWeighing v) (λ s at. absurd at) tt h)
  step_known {ks = ks} (weigh_asks {b = b} {b' = b'} {k = k} {t = t} {t' = t'} x) shape h = begun f l spread b b' k t t' x shape ks h
  step_known {b = b} {b' = b'} {ks = ks} (weigh_refused e x) shape h = unmoved b _ ks (λ q a. a) first b' x.1 h
  step_known {b = b} {ks = ks} (settle_closes {b' = b'} {k = k} {v = v} {t = t} {t' = t'} x) shape h =
      let c = settle t t' in
      subst (λ b'. Known (c ∷ ks) b' (closed (BySettling k) v)) (sym x.book) (still b c ks (λ q a. a) (second k) (closed (BySettling k) v) (λ s at. absurd at) tt h)
  step_known {b = b} {b' = b'} {ks = ks} (settle_refused {k = k} e x) shape h = unmoved b _ ks (λ q a. a) (second k) b' x.1 h
  step_known {b = b} {g = g} {ks = ks} (lists x) shape h = unmoved b _ ks (λ q a. a) g b refl h

  run_known : (own tally : List ℕ) (ks : List Call) (b : Book) (g : Stage) → Run f own tally ks b g → Known ks b g
  run_known own tally _ b _ (opened o) =
      let free = standing_start b.standings o.starts.standings in
      record {
        asked = λ q a. ((λ e. absurd (let z = free q.station in cc)), λ n. absurd n);
        heard = λ q a. ((λ e. absurd (let z = free q.station in cc)), λ n. absurd n);
        done = λ q at a. ((λ e. absurd (let z = free q.station in cc)), λ n. absurd n);
        here = λ q n. absurd (elim n [ inl n ↦ n | inr n ↦ n ]);
        early = λ q n. absurd n;
      }
  run_known own tally _ b' g' (called {ks = ks} {b = b} {g = g} r x) = step_known x (shape_kept f l spread own tally ks b g r) (run_known own tally ks b g r)

  -- what a return said, by where its station stood
  said_by : (b : Book) (q : Request) (ks : List Call) (r : Returned) (g : Stage) → Known ks b g → OutHere b q → r ≡ returned_as (standing b q.station)
      → (r ≡ Answered) ↔ HeardBy ks q
  said_by b q ks r g h out says = ((λ e. (h.heard q out.0).0 (heard_if (standing b q.station) out.1 (sym says ∙ e))), λ n. says ∙ ap returned_as ((h.heard q out.0).1 n))

  step_said : {b b' : Book} {g g' : Stage} {c : Call} {ks : List Call} → Step f b g c b' g' → Known ks b g → SaidRight ks → SaidRight (c ∷ ks)
  step_said (slips only asked x) h said = said
  step_said (takes only asked x) h said = said
  step_said {b = b} {g = g} {ks = ks} (returns {p = p} {r = Ok r} x) h said = (said_by b p.request ks r g h (return_cleared b p.request x.0) x.1.says, said)
  step_said (returns {r = Err e} x) h said = said
  step_said (weigh_closes x) h said = said
  step_said (weigh_asks x) h said = said
  step_said (weigh_refused e x) h said = said
  step_said (settle_closes x) h said = said
  step_said (settle_refused e x) h said = said
  step_said (lists x) h said = said

  run_said : (own tally : List ℕ) (ks : List Call) (b : Book) (g : Stage) → Run f own tally ks b g → SaidRight ks
  run_said own tally _ b _ (opened o) = tt
  run_said own tally _ b' g' (called {ks = ks} {b = b} {g = g} r x) = step_said x (run_known own tally ks b g r) (run_said own tally ks b g r)

  pub slips_known : (own tally : List ℕ) (ks : List Call) (b : Book) (g : Stage) → Run f own tally ks b g → SlipsKnown ks b g
  slips_known own tally ks b g run = record {
    out = λ q. (
      λ o. elim o.1 [ inl e ↦ inl ((h.asked q o.0).0 e) | inr e ↦ inr ((h.heard q o.0).0 e) ],
      λ n. (h.here q n, elim n [ inl n ↦ inl ((h.asked q (h.here q (inl n))).1 n) | inr n ↦ inr ((h.heard q (h.here q (inr n))).1 n) ]),
    );
    heard = λ q. (
      λ o. (h.heard q o.0.0).0 o.1,
      λ n. let a = h.here q (inr n) in
          let e = (h.heard q a).1 n in
          ((a, inr e), e),
    );
    done = h.done;
    others = (shape_kept f l spread own tally ks b g run).others;
    said = run_said own tally ks b g run;
  }
    where
      h : Known ks b g
      h = run_known own tally ks b g run
