-- The small steps as functions, and that each is what it says: what a leaf of the code has for its contract. Assumes nothing.
use mathlib.Core.Bool.{Bool, true, false, cond}
use mathlib.Core.Path.{◌≡◌, refl, sym, ap, ◌∙◌}
use Prim.Native.Nat.{ℕ}
use native.Mathlib.Decide.{ℕ_discrete}
use Rattle.algebra.proofs.Sum.{eqb_yes, eqb_no, by_bool}
use Rattle.plane.specs.Base.{Side}
use Rattle.cavities.specs.Changes.{Joined, Dropped, Parked, ren}
use Rattle.cavities.specs.Leaves.{put, drop_net, join_net, relink, park_net}
use Rattle.cavities.specs.Nets.{Net, Live, Dead, Good, World, Inv}
use Rattle.cavities.proofs.Net.{clash}
use Rattle.cavities.proofs.Steps.{ren_yes, ren_no}

pub put_same : {A : Type 0} (f : ℕ → A) (k : ℕ) (a : A) → put f k a k ≡ a
unfolding put
put_same f k a = ap (λ (b : Bool). cond b a (f k)) (eqb_yes k k refl)

pub put_other : {A : Type 0} (f : ℕ → A) (k : ℕ) (a : A) (h : ℕ) → ¬ (h ≡ k) → put f k a h ≡ f h
unfolding put
put_other f k a h n = ap (λ (b : Bool). cond b a (f h)) (eqb_no h k n)

put2_fst : {A : Type 0} (f : ℕ → A) (x y : ℕ) (a b : A) → ¬ (x ≡ y) → put (put f x a) y b x ≡ a
put2_fst f x y a b n = put_other (put f x a) y b x n ∙ put_same f x a

put2_other : {A : Type 0} (f : ℕ → A) (x y : ℕ) (a b : A) (h : ℕ) → ¬ (h ≡ x) → ¬ (h ≡ y) → put (put f x a) y b h ≡ f h
put2_other f x y a b h n m = put_other (put f x a) y b h m ∙ put_other f x a h n

-- ---- drop

pub drops : (σ : Net) (x y : ℕ) → ¬ (x ≡ y) → Dropped σ (drop_net σ x y) x y
unfolding drop_net
drops σ x y n = record {
  dead_x = put2_fst σ.live x y false false n;
  dead_y = put_same (put σ.live x false) y false;
  live = put2_other σ.live x y false false;
  same = λ h. record { org = refl; dst = refl; mark = refl; has = refl; mate = refl; side = refl };
}

-- ---- join

pub joins : (σ : Net) (x y : ℕ) → ¬ (x ≡ y) → Joined σ (join_net σ x y) x y
unfolding join_net
joins σ x y n = record {
  live_x = put2_fst σ.live x y true true n;
  live_y = put_same (put σ.live x true) y true;
  live = put2_other σ.live x y true true;
  org = λ h. refl;
  dst = λ h. refl;
  mark_x = put2_fst σ.mark x y 0 0 n;
  mark_y = put_same (put σ.mark x 0) y 0;
  has_x = put2_fst σ.has x y true true n;
  has_y = put_same (put σ.has x true) y true;
  mate_x = put2_fst σ.mate x y y x n;
  mate_y = put_same (put σ.mate x y) y x;
  same = λ h a b. record { org = refl; dst = refl; mark = put2_other σ.mark x y 0 0 h a b; has = put2_other σ.has x y true true h a b; mate = put2_other σ.mate x y y x h a b; side = refl };
}

-- ---- park: the partner's partner, too

relink_ren : (Along : Side → ℕ → ℕ → Type 0) (σ : Net) (o v : ℕ) → Good Along σ → Live σ o → (h : ℕ) → Live σ h → σ.has h ≡ true → relink σ o v h ≡ ren o v (σ.mate h)
unfolding relink
relink_ren Along σ o v good lo h l e = by_bool (σ.has o) with_mate without
  where
    to_o : σ.mate h ≡ o → (σ.has o ≡ true) × (h ≡ σ.mate o)
    to_o q = let m = (good h l).mated e in (ap σ.has (sym q) ∙ m.has, sym m.back ∙ ap σ.mate q)

    with_mate : σ.has o ≡ true → cond (σ.has o) (put σ.mate (σ.mate o) v) σ.mate h ≡ ren o v (σ.mate h)
    with_mate k = ap (λ (b : Bool). cond b (put σ.mate (σ.mate o) v) σ.mate h) k ∙ go (ℕ_discrete h (σ.mate o))
      where
        go : Dec (h ≡ σ.mate o) → put σ.mate (σ.mate o) v h ≡ ren o v (σ.mate h)
        go (yes q) = ap (put σ.mate (σ.mate o) v) q ∙ put_same σ.mate (σ.mate o) v ∙ sym (ren_yes o v (σ.mate h) (ap σ.mate q ∙ ((good o lo).mated k).back))
        go (no q) = put_other σ.mate (σ.mate o) v h q ∙ sym (ren_no o v (σ.mate h) (λ w. q (to_o w).1))

    without : σ.has o ≡ false → cond (σ.has o) (put σ.mate (σ.mate o) v) σ.mate h ≡ ren o v (σ.mate h)
    without k = ap (λ (b : Bool). cond b (put σ.mate (σ.mate o) v) σ.mate h) k ∙ sym (ren_no o v (σ.mate h) (λ w. clash (to_o w).0 k))

-- o is not its own partner: its ends differ
pub parks : (W : World) (σ : Net) (o v : ℕ) → Inv W σ → Live σ o → Dead σ v → ¬ (σ.org o ≡ σ.dst o) → Parked σ (park_net σ o v) o v
unfolding park_net
parks W σ o v inv lo dv open' = record {
  dead_o = put_other (put σ.live o false) v true o o_v ∙ put_same σ.live o false;
  live_v = put_same (put σ.live o false) v true;
  live = put2_other σ.live o v false true;
  org_v = put_same σ.org v (σ.org o);
  org = put_other σ.org v (σ.org o);
  dst_v = put_same σ.dst v (σ.dst o);
  dst = put_other σ.dst v (σ.dst o);
  mark_v = put_same σ.mark v (σ.mark o);
  mark = put_other σ.mark v (σ.mark o);
  side_v = put_same σ.side v (σ.side o);
  side = put_other σ.side v (σ.side o);
  has_v = put_same σ.has v (σ.has o);
  has = put_other σ.has v (σ.has o);
  mate_v = λ e. put_same (relink σ o v) v (σ.mate o) ∙ sym (ren_no o v (σ.mate o) (λ q. open' (sym ((inv.good o lo).mated e).dst ∙ ap σ.dst q)));
  mate = λ h l n e. put_other (relink σ o v) v (σ.mate o) h n ∙ relink_ren W.Along σ o v inv.good lo h l e;
}
  where
    o_v : ¬ (o ≡ v)
    o_v q = clash lo (ap σ.live q ∙ dv)
