-- The corridor: the triangles that the segment crosses, entered one after the other, each through the edge by which the one before was
-- left. Each entry drops that pair of partners and parks one more edge: so the open cavity's gaps are parked, every crossed half-edge is
-- dead, and there are as many crossed triangles as corners. Assumes nothing.
use mathlib.Core.Bool.{true}
use mathlib.Core.Path.{◌≡◌, refl, sym, ap, ◌∙◌, subst}
use Prim.Native.Nat.{ℕ, suc, ◌+◌, ◌*◌, ◌<◌}
use native.Mathlib.Decide.{ℕ_discrete, dec_lt}
use native.Mathlib.Omega.{arith}
use Rattle.cavities.specs.Changes.{But, Dropped, Parked}
use Rattle.cavities.specs.Corridors.{Three, t0, t1, t2, In, Parts, Tiled, Core, Core'}
use Rattle.cavities.specs.Fillings.{Slots, Gaps, Tri}
use Rattle.cavities.specs.Heirs.{Kept}
use Rattle.cavities.specs.Nets.{Net, Live, Dead, Mated, World, Inv}
use Rattle.cavities.proofs.Fill.{le_self, same_slot, is0, lt0, lt1, lt2}
use Rattle.cavities.proofs.Net.{clash}
use Rattle.cavities.proofs.Steps.{dropped_inv, parked_inv, not_same}

in0 : (t : ℕ) → In t (3 * t)
in0 t = record { k = 0; three = lt0; is = is0 t }

in1 : (t : ℕ) → In t (3 * t + 1)
in1 t = record { k = 1; three = lt1; is = refl }

in2 : (t : ℕ) → In t (3 * t + 2)
in2 t = record { k = 2; three = lt2; is = refl }

three_lt : (k : ℕ) → k < 3 → ¬ (k ≡ 0) → ¬ (k ≡ 1) → k ≡ 2
three_lt k l a b = omega arith

pub parts : {t e f g : ℕ} → Three t e f g → Parts t e f g
parts (t0 {t = t}) = record {
  in_e = in0 t;
  in_f = in1 t;
  in_g = in2 t;
  ef = λ q. omega arith;
  fg = λ q. omega arith;
  eg = λ q. omega arith;
  all = λ h i a b. let l = i.three in let q = i.is in omega arith;
}
parts (t1 {t = t}) = record {
  in_e = in1 t;
  in_f = in2 t;
  in_g = in0 t;
  ef = λ q. omega arith;
  fg = λ q. omega arith;
  eg = λ q. omega arith;
  all = λ h i a b. let l = i.three in let q = i.is in omega arith;
}
parts (t2 {t = t}) = record {
  in_e = in2 t;
  in_f = in0 t;
  in_g = in1 t;
  ef = λ q. omega arith;
  fg = λ q. omega arith;
  eg = λ q. omega arith;
  all = λ h i a b. let l = i.three in let q = i.is in omega arith;
}

pub parts_swap : {t e f g : ℕ} → Parts t e f g → Parts t e g f
parts_swap {t} {e} {f} {g} p = record { in_e = p.in_e; in_f = p.in_g; in_g = p.in_f; ef = p.eg; fg = λ q. p.fg (sym q); eg = p.ef; all = λ h i a b. go h i a b (ℕ_discrete h f) }
  where
    go : (h : ℕ) → In t h → ¬ (h ≡ e) → ¬ (h ≡ g) → Dec (h ≡ f) → h ≡ f
    go h i a b (yes q) = q
    go h i a b (no n) = absurd (b (p.all h i a n))

pub turn_ef : {t e f g : ℕ} (Ccw : ℕ → ℕ → ℕ → Type 0) (σ : Net) → Three t e f g → Tri Ccw σ t → σ.dst e ≡ σ.org f
turn_ef Ccw σ t0 k = k.dst0
turn_ef Ccw σ t1 k = k.dst1
turn_ef Ccw σ t2 k = k.dst2

pub turn : {t e f g : ℕ} → Three t e f g → Three t f g e
turn t0 = t1
turn t1 = t2
turn t2 = t0

real : (t s k : ℕ) → s < t → k < 3 → 3 * s + k < 3 * t
real t s k l h = omega arith

module _ (W : World) (Ccw : ℕ → ℕ → ℕ → Type 0) (slot vt : ℕ → ℕ) (t cap n x : ℕ) (σ σ1 σ2 σ3 : Net) (til : Tiled W Ccw vt t cap σ)
    (cor : Core W slot vt t n x σ σ1) (fits : suc n < cap) (has : σ1.has x ≡ true) (plain : σ1.mark x ≡ 0) (o y : ℕ)
    (prt : Parts (slot n) (σ1.mate x) o y) (small : slot n < t) (open' : ¬ (σ1.org x ≡ σ1.dst x)) (kx : Kept σ1 (But x (σ1.mate x)) (σ1.org x))
    (ky : Kept σ1 (But x (σ1.mate x)) (σ1.org (σ1.mate x))) (drop : Dropped σ1 σ2 x (σ1.mate x)) (park : Parked σ2 σ3 o (vt (suc n))) where
  e : ℕ
  e = σ1.mate x

  pair : Mated σ1 x (σ1.mate x)
  pair = (cor.inv.good x cor.exit_live).mated has

  -- it is entered for the first time
  not_exit : ¬ (σ1.mate x ≡ x)
  not_exit q = open' (sym pair.dst ∙ ap σ1.dst q)

  new_slot : ¬ Slots slot 0 n (σ1.mate x)
  new_slot s = clash pair.live (cor.slot_dead (σ1.mate x) s not_exit)

  new_apart : (z : ℕ) → z < n → ¬ (slot z ≡ slot n)
  new_apart z l q = new_slot (record { at = z; k = prt.in_e.k; low = omega arith; high = l; three = prt.in_e.three; is = prt.in_e.is ∙ ap (λ (s : ℕ). 3 * s + prt.in_e.k) (sym q) })

  -- no half-edge of it was crossed, or is a place to park
  in_new : (h : ℕ) → In (slot n) h → ¬ Slots slot 0 n h
  in_new h i s = new_apart s.at s.high (same_slot (slot s.at) (slot n) s.k i.k s.three i.three (sym s.is ∙ i.is))

  slot_real' : (h : ℕ) → Slots slot 0 n h → Live σ h
  slot_real' h s = til.live h (subst (λ (k : ℕ). k < 3 * t) (sym s.is) (real t (slot s.at) s.k (cor.slot_real s.at s.high) s.three))

  in_real : (h : ℕ) → In (slot n) h → Live σ h
  in_real h i = til.live h (subst (λ (k : ℕ). k < 3 * t) (sym i.is) (real t (slot n) i.k small i.three))

  gap_vt : (h : ℕ) → Live σ h → ¬ Gaps vt 0 (suc (suc n)) h
  gap_vt h l g = clash l (ap σ.live g.is ∙ til.dead g.at (let k = fits in let m = g.high in omega arith))

  gap_less : (h : ℕ) → Gaps vt 0 (suc n) h → Gaps vt 0 (suc (suc n)) h
  gap_less h g = record { at = g.at; low = g.low; high = let k = g.high in omega arith; is = g.is }

  gap_new : Gaps vt 0 (suc (suc n)) (vt (suc n))
  gap_new = record { at = suc n; low = omega arith; high = le_self; is = refl }

  in_live : (h : ℕ) → In (slot n) h → Live σ1 h
  in_live h i = cor.live h (in_new h i) (λ g. gap_vt h (in_real h i) (gap_less h g)) ∙ in_real h i

  not_vt : (h : ℕ) → Live σ h → ¬ (h ≡ vt (suc n))
  not_vt h l q = gap_vt h l (subst (Gaps vt 0 (suc (suc n))) (sym q) gap_new)

  vt_old : ¬ Gaps vt 0 (suc n) (vt (suc n))
  vt_old g = let q = til.apart (suc n) g.at fits (let k = fits in let m = g.high in omega arith) g.is in let m = g.high in omega arith

  vt_dead : Dead σ1 (vt (suc n))
  vt_dead = cor.live (vt (suc n)) (λ s. not_vt (vt (suc n)) (slot_real' (vt (suc n)) s) refl) vt_old ∙ til.dead (suc n) fits

  not_x : (h : ℕ) → In (slot n) h → ¬ (h ≡ x)
  not_x h i q = in_new h i (subst (Slots slot 0 n) (sym q) cor.exit_in)

  inv2 : Inv W σ2
  inv2 = dropped_inv W σ1 σ2 x (σ1.mate x) cor.exit_live has refl plain kx ky drop cor.inv

  live2 : (h : ℕ) → In (slot n) h → ¬ (h ≡ σ1.mate x) → Live σ2 h
  live2 h i m = drop.live h (not_x h i) m ∙ in_live h i

  vt_dead2 : Dead σ2 (vt (suc n))
  vt_dead2 = drop.live (vt (suc n)) (λ q. clash cor.exit_live (ap σ1.live (sym q) ∙ vt_dead)) (λ q. clash pair.live (ap σ1.live (sym q) ∙ vt_dead)) ∙ vt_dead

  in_slots : (h : ℕ) → In (slot n) h → Slots slot 0 (suc n) h
  in_slots h i = record { at = n; k = i.k; low = omega arith; high = le_self; three = i.three; is = i.is }

  old_slots : (h : ℕ) → Slots slot 0 n h → Slots slot 0 (suc n) h
  old_slots h s = record { at = s.at; k = s.k; low = s.low; high = let k = s.high in omega arith; three = s.three; is = s.is }

  slot_dead : (h : ℕ) → Slots slot 0 (suc n) h → ¬ (h ≡ y) → Dead σ3 h
  slot_dead h s m = go (dec_lt s.at n)
    where
      old : Slots slot 0 n h → Dec (h ≡ x) → Dead σ3 h
      old a d = park.live h (λ q. in_new o prt.in_f (subst (Slots slot 0 n) q a)) (not_vt h (slot_real' h a)) ∙ dead2 d
        where
          dead2 : Dec (h ≡ x) → Dead σ2 h
          dead2 (yes q) = ap σ2.live q ∙ drop.dead_x
          dead2 (no q) = drop.live h q (λ w. new_slot (subst (Slots slot 0 n) w a)) ∙ cor.slot_dead h a q

      new : In (slot n) h → Dec (h ≡ σ1.mate x) → Dec (h ≡ o) → Dead σ3 h
      new i (yes q) d = park.live h (λ w. prt.ef (sym q ∙ w)) (not_vt h (in_real h i)) ∙ ap σ2.live q ∙ drop.dead_y
      new i (no q) (yes w) = ap σ3.live w ∙ park.dead_o
      new i (no q) (no w) = absurd (m (prt.all h i q w))

      go : Dec (s.at < n) → Dead σ3 h
      go (yes l) = old (record { at = s.at; k = s.k; low = s.low; high = l; three = s.three; is = s.is }) (ℕ_discrete h x)
      go (no l) =
          let q : s.at ≡ n = omega arith in
          new (record { k = s.k; three = s.three; is = s.is ∙ ap (λ (z : ℕ). 3 * slot z + s.k) q }) (ℕ_discrete h (σ1.mate x)) (ℕ_discrete h o)

  gap_live : (h : ℕ) → Gaps vt 0 (suc (suc n)) h → Live σ3 h
  gap_live h g = go (ℕ_discrete h (vt (suc n)))
    where
      go : Dec (h ≡ vt (suc n)) → Live σ3 h
      go (yes q) = ap σ3.live q ∙ park.live_v
      go (no q) =
          park.live h (λ w. gap_vt h (subst (Live σ) (sym w) (in_real o prt.in_f)) g) q ∙
          drop.live h (λ w. gap_vt h (subst (Live σ) (sym w) (slot_real' x cor.exit_in)) g) (λ w. gap_vt h (subst (Live σ) (sym w) (in_real (σ1.mate x) prt.in_e)) g) ∙
          cor.gap_live h (record { at = g.at; low = g.low; high = less g.at g.high (λ z. q (g.is ∙ ap vt z)); is = g.is })
        where
          less : (a : ℕ) → a < suc (suc n) → ¬ (a ≡ suc n) → a < suc n
          less a l m = omega arith

  apart : (a b : ℕ) → a < suc n → b < suc n → slot a ≡ slot b → a ≡ b
  apart a b l m q = go (dec_lt a n) (dec_lt b n)
    where
      go : Dec (a < n) → Dec (b < n) → a ≡ b
      go (yes u) (yes v) = cor.slot_apart a b u v q
      go (yes u) (no v) = let w : b ≡ n = omega arith in absurd (new_apart a u (q ∙ ap slot w))
      go (no u) (yes v) = let w : a ≡ n = omega arith in absurd (new_apart b v (sym q ∙ ap slot w))
      go (no u) (no v) = omega arith

  small' : (a : ℕ) → a < suc n → slot a < t
  small' a l = go (dec_lt a n)
    where
      go : Dec (a < n) → slot a < t
      go (yes u) = cor.slot_real a u
      go (no u) = let w : n ≡ a = omega arith in subst (λ (z : ℕ). slot z < t) w small

  -- one more triangle crossed
  pub enter : Core W slot vt t (suc n) y σ σ3
  enter = record {
    inv = parked_inv W σ2 σ3 o (vt (suc n)) (live2 o prt.in_f (λ q. prt.ef (sym q))) vt_dead2 (til.low (suc n) fits) park inv2;
    exit_live = park.live y (λ q. prt.fg (sym q)) (not_vt y (in_real y prt.in_g)) ∙ live2 y prt.in_g (λ q. prt.eg (sym q));
    exit_in = in_slots y prt.in_g;
    slot_dead = slot_dead;
    slot_real = small';
    slot_apart = apart;
    gap_live = gap_live;
    live = λ h s g. park.live h (λ q. s (in_slots h (subst (In (slot n)) (sym q) prt.in_f)))
        (λ q. g (subst (Gaps vt 0 (suc (suc n))) (sym q) gap_new))
        ∙ drop.live h (λ q. s (old_slots h (subst (Slots slot 0 n) (sym q) cor.exit_in)))
        (λ q. s (in_slots h (subst (In (slot n)) (sym q) prt.in_e))) ∙ cor.live h (λ z. s (old_slots h z)) (λ z. g (gap_less h z));
    org = λ h g. park.org h (λ q. g (subst (Gaps vt 0 (suc (suc n))) (sym q) gap_new)) ∙ (drop.same h).org ∙ cor.org h (λ z. g (gap_less h z));
    dst = λ h g. park.dst h (λ q. g (subst (Gaps vt 0 (suc (suc n))) (sym q) gap_new)) ∙ (drop.same h).dst ∙ cor.dst h (λ z. g (gap_less h z));
  }

-- ---- the first triangle

module _ (W : World) (Ccw : ℕ → ℕ → ℕ → Type 0) (slot vt : ℕ → ℕ) (t cap x g f : ℕ) (σ σ1 σ2 : Net) (til : Tiled W Ccw vt t cap σ) (fits : 1 < cap)
    (prt : Parts (slot 0) x g f) (small : slot 0 < t) (park : Parked σ σ1 g (vt 0)) (park' : Parked σ1 σ2 f (vt 1)) where
  one_real : (h : ℕ) → In (slot 0) h → Live σ h
  one_real h i = til.live h (subst (λ (k : ℕ). k < 3 * t) (sym i.is) (real t (slot 0) i.k small i.three))

  zero_fits : 0 < cap
  zero_fits = omega arith

  one_vt0 : (h : ℕ) → Live σ h → ¬ (h ≡ vt 0)
  one_vt0 h l = not_same σ h (vt 0) l (til.dead 0 zero_fits)

  one_vt1 : (h : ℕ) → Live σ h → ¬ (h ≡ vt 1)
  one_vt1 h l = not_same σ h (vt 1) l (til.dead 1 fits)

  two_vt : ¬ (vt 1 ≡ vt 0)
  two_vt q = let e = til.apart 1 0 fits zero_fits q in omega arith

  at_zero : (h : ℕ) → Slots slot 0 1 h → In (slot 0) h
  at_zero h s = let q : s.at ≡ 0 = at_none s.at s.high in record { k = s.k; three = s.three; is = s.is ∙ ap (λ (z : ℕ). 3 * slot z + s.k) q }
    where
      at_none : (a : ℕ) → a < 1 → a ≡ 0
      at_none a l = omega arith

  to_zero : (h : ℕ) → In (slot 0) h → Slots slot 0 1 h
  to_zero h i = record { at = 0; k = i.k; low = omega arith; high = omega arith; three = i.three; is = i.is }

  gap0 : Gaps vt 0 2 (vt 0)
  gap0 = record { at = 0; low = omega arith; high = omega arith; is = refl }

  gap1 : Gaps vt 0 2 (vt 1)
  gap1 = record { at = 1; low = omega arith; high = omega arith; is = refl }

  gap_f : ¬ (f ≡ g)
  gap_f q = prt.fg (sym q)

  one_live : (h : ℕ) → Gaps vt 0 2 h → Live σ2 h
  one_live h i = go (ℕ_discrete i.at 0)
    where
      go : Dec (i.at ≡ 0) → Live σ2 h
      go (yes q) = ap σ2.live (i.is ∙ ap vt q) ∙ park'.live (vt 0) (λ w. one_vt0 f (one_real f prt.in_g) (sym w)) (λ w. two_vt (sym w)) ∙ park.live_v
      go (no q) = let w : i.at ≡ 1 = let l = i.high in omega arith in ap σ2.live (i.is ∙ ap vt w) ∙ park'.live_v

  one_dead : (h : ℕ) → Slots slot 0 1 h → ¬ (h ≡ x) → Dead σ2 h
  one_dead h s n = go (ℕ_discrete h g)
    where
      go : Dec (h ≡ g) → Dead σ2 h
      go (yes q) = ap σ2.live q ∙ park'.live g prt.fg (one_vt1 g (one_real g prt.in_f)) ∙ park.dead_o
      go (no q) = ap σ2.live (prt.all h (at_zero h s) n q) ∙ park'.dead_o

  pub begin : Core W slot vt t 1 x σ σ2
  begin = record {
    inv =
        parked_inv W σ1 σ2 f (vt 1) (park.live f gap_f (one_vt0 f (one_real f prt.in_g)) ∙ one_real f prt.in_g)
        (park.live (vt 1) (λ q. one_vt1 g (one_real g prt.in_f) (sym q)) two_vt ∙ til.dead 1 fits) (til.low 1 fits) park'
        (parked_inv W σ σ1 g (vt 0) (one_real g prt.in_f) (til.dead 0 zero_fits) (til.low 0 zero_fits) park til.inv);
    exit_live = park'.live x prt.eg (one_vt1 x (one_real x prt.in_e)) ∙ park.live x prt.ef (one_vt0 x (one_real x prt.in_e)) ∙ one_real x prt.in_e;
    exit_in = to_zero x prt.in_e;
    slot_dead = one_dead;
    slot_real = λ y l. let q : 0 ≡ y = omega arith in subst (λ (z : ℕ). slot z < t) q small;
    slot_apart = λ y z l m q. omega arith;
    gap_live = one_live;
    live = λ h s i. park'.live h (λ q. s (to_zero h (subst (In (slot 0)) (sym q) prt.in_g))) (λ q. i (subst (Gaps vt 0 2) (sym q) gap1))
        ∙ park.live h (λ q. s (to_zero h (subst (In (slot 0)) (sym q) prt.in_f))) (λ q. i (subst (Gaps vt 0 2) (sym q) gap0));
    org = λ h i. park'.org h (λ q. i (subst (Gaps vt 0 2) (sym q) gap1)) ∙ park.org h (λ q. i (subst (Gaps vt 0 2) (sym q) gap0));
    dst = λ h i. park'.dst h (λ q. i (subst (Gaps vt 0 2) (sym q) gap1)) ∙ park.dst h (λ q. i (subst (Gaps vt 0 2) (sym q) gap0));
  }

-- ---- the last edge is parked, too: the cavity is open

module _ (W : World) (Ccw : ℕ → ℕ → ℕ → Type 0) (slot vt : ℕ → ℕ) (t cap n x : ℕ) (σ σ1 σ2 : Net) (til : Tiled W Ccw vt t cap σ)
    (cor : Core W slot vt t n x σ σ1) (fits : suc n < cap) (park : Parked σ1 σ2 x (vt (suc n))) where
  last_real : (h : ℕ) → Slots slot 0 n h → Live σ h
  last_real h s = til.live h (subst (λ (k : ℕ). k < 3 * t) (sym s.is) (real t (slot s.at) s.k (cor.slot_real s.at s.high) s.three))

  last_vt : (h : ℕ) → Live σ h → ¬ (h ≡ vt (suc n))
  last_vt h l = not_same σ h (vt (suc n)) l (til.dead (suc n) fits)

  last_old : ¬ Gaps vt 0 (suc n) (vt (suc n))
  last_old g = let q = til.apart (suc n) g.at fits (let k = fits in let m = g.high in omega arith) g.is in let m = g.high in omega arith

  last_dead : Dead σ1 (vt (suc n))
  last_dead = cor.live (vt (suc n)) (λ s. last_vt (vt (suc n)) (last_real (vt (suc n)) s) refl) last_old ∙ til.dead (suc n) fits

  last_new : Gaps vt 0 (suc (suc n)) (vt (suc n))
  last_new = record { at = suc n; low = omega arith; high = le_self; is = refl }

  last_less : (h : ℕ) → Gaps vt 0 (suc n) h → Gaps vt 0 (suc (suc n)) h
  last_less h g = record { at = g.at; low = g.low; high = let k = g.high in omega arith; is = g.is }

  last_gap : (h : ℕ) → Gaps vt 0 (suc (suc n)) h → Live σ2 h
  last_gap h g = go (ℕ_discrete h (vt (suc n)))
    where
      go : Dec (h ≡ vt (suc n)) → Live σ2 h
      go (yes q) = ap σ2.live q ∙ park.live_v
      go (no q) =
          park.live h (λ w. clash (subst (Live σ) (sym w) (last_real x cor.exit_in)) (ap σ.live g.is ∙ til.dead g.at (let k = fits in let m = g.high in omega arith))) q ∙
          cor.gap_live h (record { at = g.at; low = g.low; high = less g.at g.high (λ z. q (g.is ∙ ap vt z)); is = g.is })
        where
          less : (a : ℕ) → a < suc (suc n) → ¬ (a ≡ suc n) → a < suc n
          less a l m = omega arith

  last_slot : (h : ℕ) → Slots slot 0 n h → Dead σ2 h
  last_slot h s = go (ℕ_discrete h x)
    where
      go : Dec (h ≡ x) → Dead σ2 h
      go (yes q) = ap σ2.live q ∙ park.dead_o
      go (no q) = park.live h q (last_vt h (last_real h s)) ∙ cor.slot_dead h s q

  pub finish : Core' W slot vt t n σ σ2
  finish = record {
    inv = parked_inv W σ1 σ2 x (vt (suc n)) cor.exit_live last_dead (til.low (suc n) fits) park cor.inv;
    slot_dead = last_slot;
    slot_real = cor.slot_real;
    slot_apart = cor.slot_apart;
    gap_live = last_gap;
    live = λ h s g. park.live h (λ q. s (subst (Slots slot 0 n) (sym q) cor.exit_in)) (λ q. g (subst (Gaps vt 0 (suc (suc n))) (sym q) last_new)) ∙ cor.live h s (λ z. g (last_less h z));
    org = λ h g. park.org h (λ q. g (subst (Gaps vt 0 (suc (suc n))) (sym q) last_new)) ∙ cor.org h (λ z. g (last_less h z));
    dst = λ h g. park.dst h (λ q. g (subst (Gaps vt 0 (suc (suc n))) (sym q) last_new)) ∙ cor.dst h (λ z. g (last_less h z));
  }
