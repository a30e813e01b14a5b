-- The chooser's answer as a computation: the first of the greatest scores. It is the one answer that `Chooses` allows.
use Rattle.std.specs.Prelude.{ℕ, zero, suc, ◌*◌, ◌<◌, ◌≡◌, refl, Bool, true, false, cond, List, ltb, eqb, Err, Ok}
use Rattle.std.proofs.Common.{sym, ◌∙◌, mul-pos, zero-mul, mul_comm, arith, ltb-false, le-ltb, eqb-true}
use Rattle.std.proofs.lemmas.Bool.{eqb-false}
use Rattle.standard_record.specs.declared.DetailedTiming.{DetailedTiming}
use Rattle.picking.specs.Best.{Qualifies, area, Chooses}
use Rattle.picking.specs.First.{greatest, place, no_greater, reached, earliest}
use Rattle.picking.specs.declared.Limits.{Limits}
use Rattle.picking.specs.Choice.{Choice}

-- the active pixels in all of a timing that qualifies, else 0
abbrev pub score_of : Limits → DetailedTiming → ℕ
score_of l t =
    cond t.interlaced 0
    (cond (ltb l.clock t.clock) 0
    (cond (ltb l.across.0 t.across.active.0) 0
    (cond (ltb l.down.0 t.down.active.0) 0 (area t))))

abbrev pub choice : Limits → List DetailedTiming → Choice
choice l ts = cond (eqb (greatest (score_of l) ts) 0) (Err 14) (Ok (place (score_of l) ts))

-- ---- a timing qualifies exactly where its score is above 0

pub scored : (l : Limits) (t : DetailedTiming) → Qualifies l t → (score_of l t ≡ area t) × (0 < area t)
scored l t q = (
  rw (
    q.progressive,
    le-ltb l.clock t.clock q.clock,
    le-ltb l.across.0 t.across.active.0 q.across,
    le-ltb l.down.0 t.down.active.0 q.down,
  ),
  mul-pos q.wide q.high,
)

-- a factor of a product above 0
left_above : (a b : ℕ) → 0 < a * b → 0 < a
left_above zero b h = absurd (omega (arith, zero-mul b))
left_above (suc a) b h = omega arith

pub qualified : (l : Limits) (t : DetailedTiming) → 0 < score_of l t → Qualifies l t
qualified l t h =
    go t.interlaced (ltb l.clock t.clock) (ltb l.across.0 t.across.active.0) (ltb l.down.0 t.down.active.0) refl refl refl refl h
  where
    go : (i c a d : Bool) → t.interlaced ≡ i → ltb l.clock t.clock ≡ c → ltb l.across.0 t.across.active.0 ≡ a
        → ltb l.down.0 t.down.active.0 ≡ d → 0 < cond i 0 (cond c 0 (cond a 0 (cond d 0 (area t)))) → Qualifies l t
    go true c a d i≡ c≡ a≡ d≡ h = absurd (omega arith)
    go false true a d i≡ c≡ a≡ d≡ h = absurd (omega arith)
    go false false true d i≡ c≡ a≡ d≡ h = absurd (omega arith)
    go false false false true i≡ c≡ a≡ d≡ h = absurd (omega arith)
    go false false false false i≡ c≡ a≡ d≡ h =
        record {
          progressive = i≡;
          clock = ltb-false l.clock t.clock c≡;
          across = ltb-false l.across.0 t.across.active.0 a≡;
          down = ltb-false l.down.0 t.down.active.0 d≡;
          wide = left_above t.across.active.0 t.down.active.0 h;
          high = left_above t.down.active.0 t.across.active.0 (rw (mul_comm t.down.active.0 t.across.active.0) h);
        }

pub chooses : (l : Limits) (ts : List DetailedTiming) → Chooses l ts (choice l ts)
chooses l ts = go (eqb (greatest (score_of l) ts) 0) refl
  where
    go : (t : Bool) → eqb (greatest (score_of l) ts) 0 ≡ t → Chooses l ts (cond t (Err 14) (Ok (place (score_of l) ts)))
    go true e = (
      refl,
      λ i t h q. let s = scored l t q in omega (arith, s.0, s.1, no_greater (score_of l) ts i t h, eqb-true (greatest (score_of l) ts) 0 e),
    )
    go false e =
        let above : 0 < greatest (score_of l) ts = omega (arith, eqb-false (greatest (score_of l) ts) 0 e) in
        let r = reached (score_of l) ts above in
        let q = qualified l r.0 (omega (arith, r.1.1)) in
        let its = (scored l r.0 q).0 in
        record {
          timing = r.0;
          there = r.1.0;
          qualifies = q;
          most = λ j t h p. omega (arith, (scored l t p).0, no_greater (score_of l) ts j t h, its, r.1.1);
          first = λ j t h p s. earliest (score_of l) ts j t h ((scored l t p).0 ∙ s ∙ sym its ∙ r.1.1);
        }
