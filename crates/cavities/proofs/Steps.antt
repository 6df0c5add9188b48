-- The small steps of which flips, splits and fillings are made, and that each keeps a good net and its boundary: dead half-edges are
-- written, a half-edge moves to a dead number, two dead ones become partners, two partners are dropped. Assumes nothing.
use mathlib.Core.Bool.{Bool, true, cond}
use mathlib.Core.Path.{◌≡◌, refl, sym, ap, ◌∙◌, subst}
use Prim.Native.Nat.{ℕ, ◌<◌}
use native.Mathlib.Decide.{ℕ_discrete}
use Rattle.algebra.proofs.Sum.{eqb_yes, eqb_no}
use Rattle.cavities.specs.Changes.{Same, Wrote, Joined, Dropped, But, ren, Parked, Moved}
use Rattle.cavities.specs.Heirs.{Lives, Each, heir_of, fresh, Step, Kept}
use Rattle.cavities.specs.Nets.{Net, Live, Dead, Mated, Below, World, Inv}
use Rattle.cavities.proofs.Net.{clash, step_good, step_rim, step_marked, step_corner}

step_inv : (W : World) (σ σ' : Net) (heir : ℕ → ℕ) (Keep : ℕ → Type 0) → Step σ σ' heir Keep → Below W.bound σ' → Inv W σ → Inv W σ'
step_inv W σ σ' heir Keep step low inv = record {
  good = step_good W.Along σ σ' heir Keep step inv.good;
  below = low;
  rim = sym (step_rim W.bound W.φ σ σ' heir Keep step inv.below low) ∙ inv.rim;
  marked = λ p q m. step_marked σ σ' heir Keep step p q (inv.marked p q m);
  corner = λ p c. step_corner σ σ' heir Keep step p (inv.corner p c);
}

abbrev self : ℕ → ℕ
self h = h

abbrev All : ℕ → Type 0
All h = Unit {0}

lives_same : (σ σ' : Net) (h : ℕ) → Live σ' h → Same σ σ' h → Lives σ σ' self h
lives_same σ σ' h l s = record { live = l; org = s.org; dst = s.dst; mark = s.mark; has = s.has; mate = λ e. s.mate; side = s.side }

-- ---- dead half-edges are written

pub wrote_inv : (W : World) (σ σ' : Net) → Wrote σ σ' → Inv W σ → Inv W σ'
wrote_inv W σ σ' w inv =
    step_inv W σ σ' self All (record {
      keep_mate = λ h l k e. tt;
      keep_bare = λ h l e. tt;
      keep_mark = λ h l e. tt;
      keep_org = λ h l. record { at = h; live = l; keep = tt; org = refl };
      lives = λ h l k. lives_same σ σ' h (w.live h ∙ l) (w.same h l);
      apart = λ h k l m e. e;
      each = λ g l. heir_of g (sym (w.live g) ∙ l) tt refl;
    }) (λ h l. inv.below h (sym (w.live h) ∙ l)) inv

-- ---- two dead half-edges become partners

pub not_same : (σ : Net) (h x : ℕ) → Live σ h → Dead σ x → ¬ (h ≡ x)
not_same σ h x l d e = clash l (ap σ.live e ∙ d)

pub joined_inv : (W : World) (σ σ' : Net) (x y : ℕ) → Dead σ x → Dead σ y → x < W.bound → y < W.bound → σ.org x ≡ σ.dst y → σ.dst x ≡ σ.org y → Joined σ σ' x y → Inv W σ → Inv W σ'
joined_inv W σ σ' x y dx dy lx ly o d j inv =
    step_inv W σ σ' self All (record {
      keep_mate = λ h l k e. tt;
      keep_bare = λ h l e. tt;
      keep_mark = λ h l e. tt;
      keep_org = λ h l. record { at = h; live = l; keep = tt; org = refl };
      lives = λ h l k. let n = not_same σ h x l dx in let m = not_same σ h y l dy in lives_same σ σ' h (j.live h n m ∙ l) (j.same h n m);
      apart = λ h k l m e. e;
      each = each;
    }) low inv
  where
    pair_x : Mated σ' x y
    pair_x = record { live = j.live_y; has = j.has_y; back = j.mate_y; org = j.org y ∙ sym d ∙ sym (j.dst x); dst = j.dst y ∙ sym o ∙ sym (j.org x); mark = j.mark_y ∙ sym j.mark_x }

    pair_y : Mated σ' y x
    pair_y = record { live = j.live_x; has = j.has_x; back = j.mate_x; org = j.org x ∙ o ∙ sym (j.dst y); dst = j.dst x ∙ d ∙ sym (j.org y); mark = j.mark_x ∙ sym j.mark_y }

    low : Below W.bound σ'
    low h l = go (ℕ_discrete h x) (ℕ_discrete h y)
      where
        go : Dec (h ≡ x) → Dec (h ≡ y) → h < W.bound
        go (yes e) q = subst (λ (k : ℕ). k < W.bound) (sym e) lx
        go (no n) (yes e) = subst (λ (k : ℕ). k < W.bound) (sym e) ly
        go (no n) (no m) = inv.below h (sym (j.live h n m) ∙ l)

    each : (g : ℕ) → Live σ' g → Each σ σ' self All g
    each g l = go (ℕ_discrete g x) (ℕ_discrete g y)
      where
        go : Dec (g ≡ x) → Dec (g ≡ y) → Each σ σ' self All g
        go (yes e) q = subst (Each σ σ' self All) (sym e) (fresh j.has_x (subst (Mated σ' x) (sym j.mate_x) pair_x))
        go (no n) (yes e) = subst (Each σ σ' self All) (sym e) (fresh j.has_y (subst (Mated σ' y) (sym j.mate_y) pair_y))
        go (no n) (no m) = heir_of g (sym (j.live g n m) ∙ l) tt refl

-- ---- two partners are dropped

pub dropped_inv : (W : World) (σ σ' : Net) (x y : ℕ) → Live σ x → σ.has x ≡ true → σ.mate x ≡ y → σ.mark x ≡ 0 → Kept σ (But x y) (σ.org x) →
    Kept σ (But x y) (σ.org y) → Dropped σ σ' x y → Inv W σ → Inv W σ'
dropped_inv W σ σ' x y lx hx e bare kx ky d inv =
    step_inv W σ σ' self (But x y) (record {
      keep_mate = keep_mate;
      keep_bare = λ h l b. ((λ q. clash hx (ap σ.has (sym q) ∙ b)), (λ q. clash pair.has (ap σ.has (sym (q ∙ sym e)) ∙ b)));
      keep_mark = λ h l n. ((λ q. n (ap σ.mark q ∙ bare)), (λ q. n (ap σ.mark (q ∙ sym e) ∙ pair.mark ∙ bare)));
      keep_org = λ h l. keep_org h l (ℕ_discrete h x) (ℕ_discrete h y);
      lives = λ h l k. let m = d.live h k.0 k.1 ∙ l in lives_same σ σ' h m (d.same h);
      apart = λ h k l m q. q;
      each = λ g l. let n = not_x g l in let m = not_y g l in heir_of g (sym (d.live g n m) ∙ l) (n, m) refl;
    }) (λ h l. inv.below h (sym (d.live h (not_x h l) (not_y h l)) ∙ l)) inv
  where
    keep_org : (h : ℕ) → Live σ h → Dec (h ≡ x) → Dec (h ≡ y) → Kept σ (But x y) (σ.org h)
    keep_org h l (yes q) w = subst (Kept σ (But x y)) (ap σ.org (sym q)) kx
    keep_org h l (no q) (yes w) = subst (Kept σ (But x y)) (ap σ.org (sym w)) ky
    keep_org h l (no q) (no w) = record { at = h; live = l; keep = (q, w); org = refl }

    pair : Mated σ x (σ.mate x)
    pair = (inv.good x lx).mated hx

    not_x : (g : ℕ) → Live σ' g → ¬ (g ≡ x)
    not_x g l = not_same σ' g x l d.dead_x

    not_y : (g : ℕ) → Live σ' g → ¬ (g ≡ y)
    not_y g l = not_same σ' g y l d.dead_y

    keep_mate : (h : ℕ) → Live σ h → But x y h → σ.has h ≡ true → But x y (σ.mate h)
    keep_mate h l k b =
        let f = (inv.good h l).mated b in
        ((λ q. k.1 (sym f.back ∙ ap σ.mate q ∙ e)), (λ q. k.0 (sym f.back ∙ ap σ.mate (q ∙ sym e) ∙ pair.back)))

-- ---- a half-edge moves to a dead number

pub ren_yes : (o v h : ℕ) → h ≡ o → ren o v h ≡ v
unfolding ren
ren_yes o v h e = ap (λ (b : Bool). cond b v h) (eqb_yes h o e)

pub ren_no : (o v h : ℕ) → ¬ (h ≡ o) → ren o v h ≡ h
unfolding ren
ren_no o v h n = ap (λ (b : Bool). cond b v h) (eqb_no h o n)

pub parked_inv : (W : World) (σ σ' : Net) (o v : ℕ) → Live σ o → Dead σ v → v < W.bound → Parked σ σ' o v → Inv W σ → Inv W σ'
parked_inv W σ σ' o v lo dv lv m inv =
    step_inv W σ σ' (ren o v) All (record {
      keep_mate = λ h l k e. tt;
      keep_bare = λ h l e. tt;
      keep_mark = λ h l e. tt;
      keep_org = λ h l. record { at = h; live = l; keep = tt; org = refl };
      lives = λ h l k. lives h l (ℕ_discrete h o);
      apart = λ h k l n e. apart h k l n e (ℕ_discrete h o) (ℕ_discrete k o);
      each = λ g l. each g l (ℕ_discrete g v);
    }) (λ h l. low h l (ℕ_discrete h v)) inv
  where
    not_v : (h : ℕ) → Live σ h → ¬ (h ≡ v)
    not_v h l = not_same σ h v l dv

    not_o : (h : ℕ) → Live σ' h → ¬ (h ≡ o)
    not_o h l = not_same σ' h o l m.dead_o

    lives : (h : ℕ) → Live σ h → Dec (h ≡ o) → Lives σ σ' (ren o v) h
    lives h l (yes e) = subst (Lives σ σ' (ren o v)) (sym e) (at (ren_yes o v o refl))
      where
        at : ren o v o ≡ v → Lives σ σ' (ren o v) o
        at q = record {
          live = ap σ'.live q ∙ m.live_v;
          org = ap σ'.org q ∙ m.org_v;
          dst = ap σ'.dst q ∙ m.dst_v;
          mark = ap σ'.mark q
              ∙ m.mark_v;
          has = ap σ'.has q ∙ m.has_v;
          mate = λ e. ap σ'.mate q ∙ m.mate_v e;
          side = ap σ'.side q ∙ m.side_v;
        }
    lives h l (no n) = at (ren_no o v h n) (not_v h l)
      where
        at : ren o v h ≡ h → ¬ (h ≡ v) → Lives σ σ' (ren o v) h
        at q k = record {
          live = ap σ'.live q ∙ m.live h n k ∙ l;
          org = ap σ'.org q ∙ m.org h k;
          dst = ap σ'.dst q ∙ m.dst h k;
          mark = ap σ'.mark q ∙ m.mark h k;
          has = ap σ'.has q ∙ m.has h k;
          mate = λ e. ap σ'.mate q ∙ m.mate h l k e;
          side = ap σ'.side q ∙ m.side h k;
        }

    apart : (h k : ℕ) → Live σ h → Live σ k → ren o v h ≡ ren o v k → Dec (h ≡ o) → Dec (k ≡ o) → h ≡ k
    apart h k l n e (yes a) (yes b) = a ∙ sym b
    apart h k l n e (yes a) (no b) = absurd (not_v k n (sym (sym (ren_yes o v h a) ∙ e ∙ ren_no o v k b)))
    apart h k l n e (no a) (yes b) = absurd (not_v h l (sym (ren_no o v h a) ∙ e ∙ ren_yes o v k b))
    apart h k l n e (no a) (no b) = sym (ren_no o v h a) ∙ e ∙ ren_no o v k b

    each : (g : ℕ) → Live σ' g → Dec (g ≡ v) → Each σ σ' (ren o v) All g
    each g l (yes e) = heir_of o lo tt (ren_yes o v o refl ∙ sym e)
    each g l (no n) = heir_of g (sym (m.live g (not_o g l) n) ∙ l) tt (ren_no o v g (not_o g l))

    low : (h : ℕ) → Live σ' h → Dec (h ≡ v) → h < W.bound
    low h l (yes e) = subst (λ (k : ℕ). k < W.bound) (sym e) lv
    low h l (no n) = inv.below h (sym (m.live h (not_o h l) n) ∙ l)

pub moved_inv : (W : World) (σ σ' : Net) (o v : ℕ) → Live σ o → Dead σ v → v < W.bound → σ.org v ≡ σ.org o → σ.dst v ≡ σ.dst o → Moved σ σ' o v → Inv W σ → Inv W σ'
moved_inv W σ σ' o v lo dv lv eo ed m inv =
    parked_inv W σ σ' o v lo dv lv (record {
      dead_o = m.dead_o;
      live_v = m.live_v;
      live = m.live;
      org_v = m.org v ∙ eo;
      org = λ h n. m.org h;
      dst_v = m.dst v ∙ ed;
      dst = λ h n. m.dst h;
      mark_v = m.mark_v;
      mark = m.mark;
      side_v = m.side_v;
      side = m.side;
      has_v = m.has_v;
      has = m.has;
      mate_v = m.mate_v;
      mate = m.mate;
    }) inv
