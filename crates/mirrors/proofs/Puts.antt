-- Functions of numbers with one place changed. Assumes nothing.
use mathlib.Core.Bool.{Bool, true, false, cond}
use mathlib.Core.Path.{◌≡◌, refl, sym, ap, ◌∙◌, fun_ext}
use Prim.Native.Nat.{ℕ, ◌+◌, ◌*◌, ◌<◌}
use native.Mathlib.Decide.{ℕ_discrete, dec_lt}
use native.Mathlib.Omega.{arith}
use borrow.Author.Tests.{lt-ltb, le-ltb}
use lib.Dec.{ltb}
use Rattle.plane.specs.Halfedges.{nxt}
use Rattle.cavities.specs.Leaves.{put, put3}
use Rattle.cavities.proofs.Leaves.{put_same, put_other}

-- what holds at the place, and what holds elsewhere
pub put_at : {A : Type 0} (f : ℕ → A) (k : ℕ) (a : A) (g : ℕ → A) (h : ℕ) → (h ≡ k → g h ≡ a) → (¬ (h ≡ k) → g h ≡ f h) → g h ≡ put f k a h
put_at f k a g h p q = go (ℕ_discrete h k)
  where
    go : Dec (h ≡ k) → g h ≡ put f k a h
    go (yes e) = p e ∙ sym (put_same f k a) ∙ ap (put f k a) (sym e)
    go (no n) = q n ∙ sym (put_other f k a h n)

pub put_map : {A B : Type 0} (g : A → B) (f : ℕ → A) (k : ℕ) (a : A) (h : ℕ) → g (put f k a h) ≡ put (λ x. g (f x)) k (g a) h
put_map g f k a h = put_at (λ x. g (f x)) k (g a) (λ x. g (put f k a x)) h (λ e. ap (λ (x : ℕ). g (put f k a x)) e ∙ ap g (put_same f k a)) (λ n. ap g (put_other f k a h n))

pub put_by : {A : Type 0} (f f' : ℕ → A) (k : ℕ) (a : A) (h : ℕ) → ((x : ℕ) → f x ≡ f' x) → put f k a h ≡ put f' k a h
put_by f f' k a h e = ap (λ (g : ℕ → _). put g k a h) (fun_ext e)

pub put_id : {A : Type 0} (f : ℕ → A) (k : ℕ) (a : A) (h : ℕ) → f k ≡ a → f h ≡ put f k a h
put_id f k a h e = put_at f k a f h (λ q. ap f q ∙ e) (λ n. refl)

pub put_swap : {A : Type 0} (f : ℕ → A) (x y : ℕ) (a b : A) (h : ℕ) → ¬ (x ≡ y) → put (put f x a) y b h ≡ put (put f y b) x a h
put_swap f x y a b h n =
    put_at (put f y b) x a (put (put f x a) y b) h (λ e. ap (put (put f x a) y b) e ∙ put_other (put f x a) y b x n ∙ put_same f x a)
    (λ m. put_at f y b (put (put f x a) y b) h (λ e. ap (put (put f x a) y b) e ∙ put_same (put f x a) y b) (λ k. put_other (put f x a) y b h k ∙ put_other f x a h m))

-- ---- a function that is g below m and f from m on

module _ (m : ℕ) (g f : ℕ → ℕ) where
  mix_low : (h : ℕ) → h < m → cond (ltb h m) (g h) (f h) ≡ g h
  mix_low h l = ap (λ (b : Bool). cond b (g h) (f h)) (lt-ltb h m l)

  -- a place of f is changed; below m, where f is not read, the value must be there already
  pub mix_above : (v a h : ℕ) → (v < m → cond (ltb v m) (g v) (f v) ≡ a) → cond (ltb h m) (g h) (put f v a h) ≡ put (λ x. cond (ltb x m) (g x) (f x)) v a h
  mix_above v a h e =
      put_at (λ x. cond (ltb x m) (g x) (f x)) v a (λ x. cond (ltb x m) (g x) (put f v a x)) h
      (λ q. ap (λ (x : ℕ). cond (ltb x m) (g x) (put f v a x)) q ∙ at (dec_lt v m))
      (λ n. ap (λ (y : ℕ). cond (ltb h m) (g h) y) (put_other f v a h n))
    where
      at : Dec (v < m) → cond (ltb v m) (g v) (put f v a v) ≡ a
      at (yes l) = ap (λ (b : Bool). cond b (g v) (put f v a v)) (lt-ltb v m l) ∙ sym (mix_low v l) ∙ e l
      at (no n) = ap (λ (b : Bool). cond b (g v) (put f v a v)) (le-ltb v m (omega arith)) ∙ put_same f v a

  -- a place of g is changed
  pub mix_below : (v a h : ℕ) → v < m → cond (ltb h m) (put g v a h) (f h) ≡ put (λ x. cond (ltb x m) (g x) (f x)) v a h
  mix_below v a h l =
      put_at (λ x. cond (ltb x m) (g x) (f x)) v a (λ x. cond (ltb x m) (put g v a x) (f x)) h
      (λ q. ap (λ (x : ℕ). cond (ltb x m) (put g v a x) (f x)) q ∙ ap (λ (b : Bool). cond b (put g v a v) (f v)) (lt-ltb v m l) ∙ put_same g v a)
      (λ n. ap (λ (y : ℕ). cond (ltb h m) y (f h)) (put_other g v a h n))

pub mix_same : (m a h : ℕ) → cond (ltb h m) a a ≡ a
mix_same m a h = go (ltb h m)
  where
    go : (b : Bool) → cond b a a ≡ a
    go true = refl
    go false = refl

pub mix_below3 : (m : ℕ) (g f : ℕ → ℕ) (s a b c h : ℕ) → 3 * s + 2 < m → cond (ltb h m) (put3 g s a b c h) (f h) ≡ put3 (λ x. cond (ltb x m) (g x) (f x)) s a b c h
unfolding put3
mix_below3 m g f s a b c h l =
    mix_below m (put (put g (3 * s) a) (3 * s + 1) b) f (3 * s + 2) c h l ∙
    put_by (λ x. cond (ltb x m) (put (put g (3 * s) a) (3 * s + 1) b x) (f x)) (put (put (λ x. cond (ltb x m) (g x) (f x)) (3 * s) a) (3 * s + 1) b) (3 * s + 2) c h
    (λ x. mix_below m (put g (3 * s) a) f (3 * s + 1) b x (omega arith) ∙
    put_by (λ y. cond (ltb y m) (put g (3 * s) a y) (f y)) (put (λ y. cond (ltb y m) (g y) (f y)) (3 * s) a) (3 * s + 1) b x (λ y. mix_below m g f (3 * s) a y (omega arith)))

-- ---- the corners of a slot, read at the next half-edge

put_nxt : (f : ℕ → ℕ) (k k' a h : ℕ) → (h ≡ k' → nxt h ≡ k) → (nxt h ≡ k → h ≡ k') → put f k a (nxt h) ≡ put (λ x. f (nxt x)) k' a h
put_nxt f k k' a h p q = put_at (λ x. f (nxt x)) k' a (λ x. put f k a (nxt x)) h (λ e. ap (put f k a) (p e) ∙ put_same f k a) (λ n. put_other f k a (nxt h) (λ e. n (q e)))

nxt_at : (s h : ℕ) → h ≡ 3 * s + 2 → nxt h ≡ 3 * s
unfolding nxt
nxt_at s h e = omega arith

nxt_at0 : (s h : ℕ) → h ≡ 3 * s → nxt h ≡ 3 * s + 1
unfolding nxt
nxt_at0 s h e = omega arith

nxt_at1 : (s h : ℕ) → h ≡ 3 * s + 1 → nxt h ≡ 3 * s + 2
unfolding nxt
nxt_at1 s h e = omega arith

nxt_of : (s h : ℕ) → nxt h ≡ 3 * s → h ≡ 3 * s + 2
unfolding nxt
nxt_of s h e = omega arith

nxt_of1 : (s h : ℕ) → nxt h ≡ 3 * s + 1 → h ≡ 3 * s
unfolding nxt
nxt_of1 s h e = omega arith

nxt_of2 : (s h : ℕ) → nxt h ≡ 3 * s + 2 → h ≡ 3 * s + 1
unfolding nxt
nxt_of2 s h e = omega arith

pub put3_nxt : (g : ℕ → ℕ) (s a b c h : ℕ) → put3 g s a b c (nxt h) ≡ put3 (λ x. g (nxt x)) s b c a h
unfolding put3
put3_nxt g s a b c h =
    put_nxt (put (put g (3 * s) a) (3 * s + 1) b) (3 * s + 2) (3 * s + 1) c h (nxt_at1 s h) (nxt_of2 s h) ∙
    put_by (λ x. put (put g (3 * s) a) (3 * s + 1) b (nxt x)) (put (put e (3 * s + 2) a) (3 * s) b) (3 * s + 1) c h
    (λ x. put_nxt (put g (3 * s) a) (3 * s + 1) (3 * s) b x (nxt_at0 s x) (nxt_of1 s x) ∙
    put_by (λ y. put g (3 * s) a (nxt y)) (put e (3 * s + 2) a) (3 * s) b x (λ y. put_nxt g (3 * s) (3 * s + 2) a y (nxt_at s y) (nxt_of s y))) ∙
    put_by (put (put e (3 * s + 2) a) (3 * s) b) (put (put e (3 * s) b) (3 * s + 2) a) (3 * s + 1) c h (λ x. put_swap e (3 * s + 2) (3 * s) a b x (λ q. omega arith)) ∙
    put_swap (put e (3 * s) b) (3 * s + 2) (3 * s + 1) a c h (λ q. omega arith)
  where
    e : ℕ → ℕ
    e x = g (nxt x)
