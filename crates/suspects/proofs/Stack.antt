-- The laws of the stack of suspects: what stands in it after a push, after a pop and after a suspect has left. Assumes nothing.
use mathlib.Core.List.{List, [], ◌∷◌}
use mathlib.Core.Path.{◌≡◌, refl, sym, ap, ◌∙◌, subst}
use Prim.Native.Nat.{ℕ, zero, suc, ◌+◌, ◌-◌, ◌*◌, ◌<◌, ◌≤◌}
use native.Mathlib.Decide.{ℕ_discrete}
use native.Mathlib.Numerals.{add-one}
use native.Mathlib.Omega.{arith}
use borrow.Author.Tests.{eq-eqb, ne_eqb}
use lib.ListN.{length, get_or, set, length-set}
use lib.Seq.{get_or-set_same, get_or-set_other}
use Rattle.nets.specs.Flipping.{leave}
use Rattle.nets.specs.Layout.{flag_cell, stack_cell}
use Rattle.suspects.specs.Stack.{stack, Fresh, Suspects, pushed, Aside, NoneFrom, Closed, Left, Reborn}

-- ---- the stack as a list

pub stack_none : (w : List ℕ) → stack w 0 ≡ []
unfolding stack
stack_none w = refl

pub stack_more : (w : List ℕ) (m : ℕ) → stack w (m + 1) ≡ get_or w (stack_cell m) 0 ∷ stack w m
unfolding stack
stack_more w m = rw add-one

pub stack_pop : (w : List ℕ) (m : ℕ) → 0 < m → stack w m ≡ get_or w (stack_cell (m - 1)) 0 ∷ stack w (m - 1)
stack_pop w m p = let e : m ≡ m - 1 + 1 = omega arith in ap (stack w) e ∙ stack_more w (m - 1)

pub stack_length : (w : List ℕ) (m : ℕ) → length (stack w m) ≡ m
unfolding stack
stack_length w zero = refl
stack_length w (suc m) = ap suc (stack_length w m)

pub stack_same : (w w' : List ℕ) (m : ℕ) → ((j : ℕ) → j < m → get_or w' (stack_cell j) 0 ≡ get_or w (stack_cell j) 0) → stack w' m ≡ stack w m
unfolding stack
stack_same w w' zero e = refl
stack_same w w' (suc m) e = let r = stack_same w w' m (λ j l. e j (omega arith)) in let z = e m (omega arith) in rw (r, z)

-- ---- a number leaves a list

leave_same : (s u : ℕ) (q : List ℕ) → u ≡ s → leave s (u ∷ q) ≡ leave s q
unfolding leave
leave_same s u q e = rw (eq-eqb s u (sym e))

leave_other : (s u : ℕ) (q : List ℕ) → ¬ (u ≡ s) → leave s (u ∷ q) ≡ u ∷ leave s q
unfolding leave
leave_other s u q n = rw (ne_eqb s u (λ e. n (sym e)))

leave_fresh : (s : ℕ) (q : List ℕ) → Fresh s q → leave s q ≡ q
unfolding leave Fresh
leave_fresh s [] f = refl
leave_fresh s (u ∷ q) f = rw (ne_eqb s u (λ e. f.0 (sym e)), leave_fresh s q f.1)

fresh_leave : (s u : ℕ) (q : List ℕ) → Fresh u q → Fresh u (leave s q)
unfolding Fresh leave
fresh_leave s u [] f = tt
fresh_leave s u (v ∷ q) f =
    elim (ℕ_discrete s v) [ yes e ↦ rw (eq-eqb s v e) (fresh_leave s u q f.1) | no n ↦ rw (ne_eqb s v n) (f.0, fresh_leave s u q f.1) ]

fresh_gone : (s : ℕ) (q : List ℕ) → Fresh s (leave s q)
unfolding Fresh leave
fresh_gone s [] = tt
fresh_gone s (v ∷ q) =
    elim (ℕ_discrete s v) [ yes e ↦ rw (eq-eqb s v e) (fresh_gone s q) | no n ↦ rw (ne_eqb s v n) ((λ e. n (sym e)), fresh_gone s q) ]

-- ---- suspects

suspects_leave : (count : ℕ) (w : List ℕ) (s : ℕ) (q : List ℕ) → Suspects count w q → Suspects count w (leave s q)
unfolding Suspects leave
suspects_leave count w s [] g = tt
suspects_leave count w s (v ∷ q) g =
    elim (ℕ_discrete s v) [
      | yes e ↦ rw (eq-eqb s v e) (suspects_leave count w s q g.3)
      | no n ↦ rw (ne_eqb s v n) (g.0, g.1, fresh_leave s v q g.2, suspects_leave count w s q g.3)
    ]

-- the flags of the members are as they were
pub suspects_same : (count : ℕ) (w w' : List ℕ) (q : List ℕ) → ((s : ℕ) → ¬ Fresh s q → get_or w' (flag_cell s) 0 ≡ get_or w (flag_cell s) 0) → Suspects count w q → Suspects count w' q
unfolding Suspects Fresh
suspects_same count w w' [] e g = tt
suspects_same count w w' (s ∷ q) e g = (g.0, e s (λ f. f.0 refl) ∙ g.1, g.2, suspects_same count w w' q (λ u n. e u (λ f. n f.1)) g.3)

-- a suspect that is taken from the top
suspects_top : (count : ℕ) (w : List ℕ) (s : ℕ) (q : List ℕ) → Suspects count w (s ∷ q) → (s < count) × Fresh s q × Suspects count w q
unfolding Suspects
suspects_top count w s q g = (g.0, g.2, g.3)

pub suspects_push : (count : ℕ) (w : List ℕ) (s : ℕ) (q : List ℕ) → s < count → get_or w (flag_cell s) 0 ≡ 1 → Fresh s q → Suspects count w q → Suspects count w (s ∷ q)
unfolding Suspects
suspects_push count w s q l e f g = (l, e, f, g)

-- a slot without a flag is no suspect
unflagged : (count : ℕ) (w : List ℕ) (s : ℕ) (q : List ℕ) → Suspects count w q → get_or w (flag_cell s) 0 ≡ 0 → Fresh s q
unfolding Suspects Fresh
unflagged count w s [] g e = tt
unflagged count w s (u ∷ q) g e = ((λ i. differ (sym g.1 ∙ ap (λ (x : ℕ). get_or w (flag_cell x) 0) i ∙ e)), unflagged count w s q g.3 e)
  where
    differ : ◌≡◌ {A = ℕ} 1 0 → ⊥
    differ z = omega arith

-- as many at most as there are slots: without the highest slot at most one fewer, and all below it
less_leave : (count : ℕ) (w : List ℕ) (s : ℕ) (q : List ℕ) → Suspects count w q → length q ≤ length (leave s q) + 1
unfolding Suspects leave
less_leave count w s [] g = omega arith
less_leave count w s (v ∷ q) g =
    elim (ℕ_discrete s v) [
      | yes e ↦ rw (eq-eqb s v e, ap (λ (x : ℕ). length (leave x q)) e, leave_fresh v q g.2) (omega arith)
      | no n ↦ rw (ne_eqb s v n) (let r = less_leave count w s q g.3 in omega arith)
    ]

down : (n : ℕ) (w : List ℕ) (q : List ℕ) → Suspects (suc n) w q → Suspects n w (leave n q)
unfolding Suspects leave
down n w [] g = tt
down n w (v ∷ q) g =
    elim (ℕ_discrete n v) [
      | yes e ↦ rw (eq-eqb n v e) (down n w q g.3)
      | no k ↦ rw (ne_eqb n v k) (let b = g.0 in (omega arith, g.1, fresh_leave n v q g.2, down n w q g.3))
    ]

suspects_length : (count : ℕ) (w : List ℕ) (q : List ℕ) → Suspects count w q → length q ≤ count
unfolding Suspects
suspects_length zero w [] g = omega arith
suspects_length zero w (v ∷ q) g = let b = g.0 in omega arith
suspects_length (suc n) w q g =
    let r = suspects_length n w (leave n q) (down n w q g) in let k = less_leave (suc n) w n q g in omega arith

pub suspects_few : (count : ℕ) (w w' : List ℕ) (m : ℕ) → Suspects count w (stack w' m) → m ≤ count
suspects_few count w w' m g = let l = suspects_length count w (stack w' m) g in let e = stack_length w' m in omega arith

-- ---- the last is taken

module _ (count : ℕ) (w : List ℕ) (m : ℕ) (p : 0 < m) (g : Suspects count w (stack w m)) where
  abbrev s : ℕ
  s = get_or w (stack_cell (m - 1)) 0

  parts : (s < count) × Fresh s (stack w (m - 1)) × Suspects count w (stack w (m - 1))
  parts = suspects_top count w s (stack w (m - 1)) (subst (Suspects count w) (stack_pop w m p) g)

  pub popped_low : s < count
  popped_low = parts.0

  popped_stack : stack (set w (flag_cell s) 0) (m - 1) ≡ stack w (m - 1)
  popped_stack = stack_same w (set w (flag_cell s) 0) (m - 1) (λ j l. get_or-set_other w (flag_cell s) (stack_cell j) 0 0 (λ e. let f : ⊥ = omega arith in f))

  -- the stack was s and the rest
  pub popped_is : stack w m ≡ s ∷ stack (set w (flag_cell s) 0) (m - 1)
  popped_is = stack_pop w m p ∙ ap (λ (q : List ℕ). s ∷ q) (sym popped_stack)

  pub popped_fresh : Fresh s (stack (set w (flag_cell s) 0) (m - 1))
  popped_fresh = subst (Fresh s) (sym popped_stack) parts.1

  pub popped_suspects : Suspects count (set w (flag_cell s) 0) (stack (set w (flag_cell s) 0) (m - 1))
  popped_suspects =
      subst (Suspects count (set w (flag_cell s) 0)) (sym popped_stack)
      (suspects_same count w (set w (flag_cell s) 0) (stack w (m - 1))
      (λ u n. get_or-set_other w (flag_cell s) (flag_cell u) 0 0 (λ e. n (subst (λ (x : ℕ). Fresh x (stack w (m - 1))) (let z : s ≡ u = omega arith in z) parts.1))) parts.2)

-- ---- a search

-- none is s
all_fresh : (w : List ℕ) (s m : ℕ) → ((j : ℕ) → j < m → ¬ (get_or w (stack_cell j) 0 ≡ s)) → Fresh s (stack w m)
unfolding stack Fresh
all_fresh w s zero f = tt
all_fresh w s (suc m) f = (f m (omega arith), all_fresh w s m (λ j l. f j (omega arith)))

-- those below suspect k are not suspect k
below_fresh : (count : ℕ) (w w' : List ℕ) (k m : ℕ) → Suspects count w' (stack w m) → k < m → Fresh (get_or w (stack_cell k) 0) (stack w k)
unfolding stack Suspects
below_fresh count w w' k zero g l = absurd (let f : ⊥ = omega arith in f)
below_fresh count w w' k (suc m) g l =
    elim (ℕ_discrete k m) [ yes e ↦ rw e g.2 | no n ↦ below_fresh count w w' k m g.3 (let z : k < m = omega arith in z) ]

-- ---- the gap

pub closed_more : (w w' : List ℕ) (k j : ℕ) → k ≤ j → 16 * j + 26 < length w → Closed w k (j + 1) w' → Closed w k (j + 1 + 1) (set w' (16 * j + 10) (get_or w' (16 * j + 26) 0))
closed_more w w' k j l b o = record { len = length-set w' (16 * j + 10) (get_or w' (16 * j + 26) 0) ∙ o.len; moved = moved; rest = rest }
  where
    next : get_or w' (16 * j + 26) 0 ≡ get_or w (stack_cell (j + 1)) 0
    next =
        let e : 16 * j + 26 ≡ 16 * (j + 1) + 10 = omega arith in
        ap (λ (x : ℕ). get_or w' x 0) e ∙ o.rest (stack_cell (j + 1)) (λ i a b c. let f : ⊥ = omega arith in f)

    moved : (i : ℕ) → k ≤ i → i + 1 < j + 1 + 1 → get_or (set w' (16 * j + 10) (get_or w' (16 * j + 26) 0)) (stack_cell i) 0 ≡ get_or w (stack_cell (i + 1)) 0
    moved i a c = go (ℕ_discrete i j)
      where
        go : Dec (i ≡ j) → get_or (set w' (16 * j + 10) (get_or w' (16 * j + 26) 0)) (stack_cell i) 0 ≡ get_or w (stack_cell (i + 1)) 0
        go (yes e) = rw e (get_or-set_same w' (16 * j + 10) (get_or w' (16 * j + 26) 0) 0 (let z = o.len in omega arith) ∙ next)
        go (no n) = get_or-set_other w' (16 * j + 10) (stack_cell i) (get_or w' (16 * j + 26) 0) 0 (λ e. n (let z : i ≡ j = omega arith in z)) ∙ o.moved i a (omega arith)

    rest : (c : ℕ) → ((i : ℕ) → k ≤ i → i + 1 < j + 1 + 1 → ¬ (c ≡ stack_cell i)) → get_or (set w' (16 * j + 10) (get_or w' (16 * j + 26) 0)) c 0 ≡ get_or w c 0
    rest c f = get_or-set_other w' (16 * j + 10) c (get_or w' (16 * j + 26) 0) 0 (f j l (omega arith)) ∙ o.rest c (λ i a b. f i a (omega arith))

-- the suspects after it
module _ (w w' : List ℕ) (s k : ℕ) (low : (j : ℕ) → j < k → get_or w' (stack_cell j) 0 ≡ get_or w (stack_cell j) 0) (e : get_or w (stack_cell k) 0 ≡ s) (f : Fresh s (stack w k)) where
  at_k : stack w' k ≡ leave s (stack w (suc k))
  unfolding stack
  at_k = stack_same w w' k low ∙ sym (leave_same s (get_or w (stack_cell k) 0) (stack w k) e ∙ leave_fresh s (stack w k) f)

  from_k : (n : ℕ) → ((j : ℕ) → k ≤ j → j < n → get_or w' (stack_cell j) 0 ≡ get_or w (stack_cell (j + 1)) 0) → k ≤ n →
      ((j : ℕ) → k < j → j < suc n → ¬ (get_or w (stack_cell j) 0 ≡ s)) → stack w' n ≡ leave s (stack w (suc n))
  unfolding stack
  from_k zero mv l n = subst (λ (x : ℕ). stack w' x ≡ leave s (stack w (suc x))) (let z : k ≡ 0 = omega arith in z) at_k
  from_k (suc i) mv l n =
      elim (ℕ_discrete k (suc i)) [
        | yes z ↦ subst (λ (x : ℕ). stack w' x ≡ leave s (stack w (suc x))) z at_k
        | no z ↦
            ap (λ (x : ℕ). x ∷ stack w' i) (mv i (omega arith) (omega arith) ∙ ap (λ (x : ℕ). get_or w (stack_cell x) 0) (add-one i)) ∙
            ap (λ (q : List ℕ). get_or w (stack_cell (suc i)) 0 ∷ q) (from_k i (λ j a b. mv j a (omega arith)) (omega arith) (λ j a b. n j a (omega arith))) ∙
            sym (leave_other s (get_or w (stack_cell (suc i)) 0) (stack w (suc i)) (n (suc i) (omega arith) (omega arith)))
      ]

-- ---- a suspect is taken out

pub left_none : (w : List ℕ) (m s : ℕ) → Fresh s (stack w m) → Left w m s w m
left_none w m s f = record { len = refl; less = omega arith; stack_is = sym (leave_fresh s (stack w m) f); rest = λ c g. refl }

pub left_unflagged : (count : ℕ) (w : List ℕ) (m s : ℕ) → Suspects count w (stack w m) → get_or w (flag_cell s) 0 ≡ 0 → Left w m s w m
left_unflagged count w m s g e = left_none w m s (unflagged count w s (stack w m) g e)

pub left_unplaced : (w : List ℕ) (m s : ℕ) → NoneFrom w m s 0 → Left w m s w m
left_unplaced w m s p = left_none w m s (all_fresh w s m (λ j l. p j (omega arith) l))

pub left_closed : (count : ℕ) (w : List ℕ) (m s k : ℕ) → Suspects count w (stack w m) → (k < m) × (get_or w (stack_cell k) 0 ≡ s) × NoneFrom w m s (k + 1) →
    (w' : List ℕ) → Closed w k m w' → Left w m s w' (m - 1)
left_closed count w m s k g (l, here, above) w' o = record {
  len = o.len;
  less = omega arith;
  stack_is =
      subst (λ (x : ℕ). stack w' (m - 1) ≡ leave s (stack w x)) (let e : suc (m - 1) ≡ m = omega arith in e)
      (from_k w w' s k (λ j a. o.rest (stack_cell j) (λ i b c e. let f : ⊥ = omega arith in f)) here
      (subst (λ (x : ℕ). Fresh x (stack w k)) here (below_fresh count w w k m g l)) (m - 1)
      (λ j a b. o.moved j a (omega arith)) (omega arith) (λ j a b. above j (omega arith) (omega arith)));
  rest = λ c f. o.rest c (λ j a b. f j (omega arith));
}

-- ---- a push

pub pushed_length : (w : List ℕ) (m s : ℕ) → length (pushed w m s) ≡ length w
unfolding pushed
pushed_length w m s = simp length-set

module _ (w : List ℕ) (m s : ℕ) where
  pub pushed_stack : 16 * m + 16 ≤ length w → stack (pushed w m s) (m + 1) ≡ s ∷ stack w m
  unfolding pushed
  pushed_stack l = stack_more (pushed w m s) m ∙ cons top (stack_same w (pushed w m s) m (λ j b. other j (λ e. let f : ⊥ = omega arith in f)))
    where
      cons : {u v : ℕ} {p q : List ℕ} → u ≡ v → p ≡ q → ◌≡◌ {A = List ℕ} (u ∷ p) (v ∷ q)
      cons e f = cc

      flag : (j : ℕ) → get_or (pushed w m s) (stack_cell j) 0 ≡ get_or (set w (stack_cell m) s) (stack_cell j) 0
      flag j = get_or-set_other (set w (stack_cell m) s) (flag_cell s) (stack_cell j) 1 0 (λ e. let f : ⊥ = omega arith in f)

      other : (j : ℕ) → ¬ (stack_cell j ≡ stack_cell m) → get_or (pushed w m s) (stack_cell j) 0 ≡ get_or w (stack_cell j) 0
      other j n = flag j ∙ get_or-set_other w (stack_cell m) (stack_cell j) s 0 n

      top : get_or (pushed w m s) (stack_cell m) 0 ≡ s
      top = flag m ∙ get_or-set_same w (stack_cell m) s 0 (omega arith)

  pub pushed_suspects : (count : ℕ) (q : List ℕ) → s < count → 16 * s + 16 ≤ length w → Fresh s q → Suspects count w q → Suspects count (pushed w m s) (s ∷ q)
  unfolding pushed
  pushed_suspects count q b l f g =
      suspects_push count (pushed w m s) s q b (get_or-set_same (set w (stack_cell m) s) (flag_cell s) 1 0 (let e = length-set w (stack_cell m) s in omega arith)) f
      (suspects_same count w (pushed w m s) q (λ u n. flag u (λ e. n (subst (λ (x : ℕ). Fresh x q) (sym e) f))) g)
    where
      flag : (u : ℕ) → ¬ (u ≡ s) → get_or (pushed w m s) (flag_cell u) 0 ≡ get_or w (flag_cell u) 0
      flag u n =
          get_or-set_other (set w (stack_cell m) s) (flag_cell s) (flag_cell u) 1 0 (λ e. n (let z : u ≡ s = omega arith in z)) ∙
          get_or-set_other w (stack_cell m) (flag_cell u) s 0 (λ e. let f : ⊥ = omega arith in f)

  pub pushed_aside : (count : ℕ) → m ≤ count → s < count → Aside count w (pushed w m s)
  unfolding pushed
  pushed_aside count l b = record {
    len = pushed_length w m s;
    under = λ c k. same c (λ e. let f : ⊥ = omega arith in f) (λ e. let f : ⊥ = omega arith in f);
    over = λ c k. same c (λ e. let f : ⊥ = omega arith in f) (λ e. let f : ⊥ = omega arith in f);
    beyond = λ c k. same c (λ e. let f : ⊥ = omega arith in f) (λ e. let f : ⊥ = omega arith in f);
  }
    where
      same : (c : ℕ) → ¬ (c ≡ stack_cell m) → ¬ (c ≡ flag_cell s) → get_or (pushed w m s) c 0 ≡ get_or w c 0
      same c n k = get_or-set_other (set w (stack_cell m) s) (flag_cell s) c 1 0 k ∙ get_or-set_other w (stack_cell m) c s 0 n

-- one more fits
pub suspects_room : (count : ℕ) (w : List ℕ) (m s : ℕ) → Suspects count w (stack w m) → Fresh s (stack w m) → s < count → 16 * s + 16 ≤ length w → m < count
suspects_room count w m s g f b l =
    let r = suspects_length count (pushed w m s) (s ∷ stack w m) (pushed_suspects w m s count (stack w m) b l f g) in
    let e = stack_length w m in
    let z : suc (length (stack w m)) ≤ count = r in
    omega arith

-- ---- what is aside

pub aside_trans : {count : ℕ} {w w' w'' : List ℕ} → Aside count w w' → Aside count w' w'' → Aside count w w''
aside_trans a b = record { len = b.len ∙ a.len; under = λ c l. b.under c l ∙ a.under c l; over = λ c l. b.over c l ∙ a.over c l; beyond = λ c l. b.beyond c l ∙ a.beyond c l }

left_aside : (count : ℕ) (w : List ℕ) (m s : ℕ) (w' : List ℕ) (r : ℕ) → m ≤ count → Left w m s w' r → Aside count w w'
left_aside count w m s w' r l o = record {
  len = o.len;
  under = λ c k. o.rest c (λ j b e. let f : ⊥ = omega arith in f);
  over = λ c k. o.rest c (λ j b e. let f : ⊥ = omega arith in f);
  beyond = λ c k. o.rest c (λ j b e. let f : ⊥ = omega arith in f);
}

-- ---- both slots of a flip are born again

module _ (count : ℕ) (w : List ℕ) (m t n : ℕ) (room : 16 * count + 16 ≤ length w) (tl : t < count) (nl : n < count) (tn : ¬ (t ≡ n)) (g : Suspects count w (stack w m)) (f : Fresh t (stack w m)) where
  pub reborn_few : m < count
  reborn_few = suspects_room count w m t g f tl (omega arith)

  module _ (w1 : List ℕ) (k : ℕ) (o : Left w m n w1 k) where
    pub reborn_less : k < count
    reborn_less = let a = reborn_few in let b = o.less in omega arith

    abbrev w2 : List ℕ
    w2 = pushed w1 k t

    abbrev w3 : List ℕ
    w3 = pushed w2 (k + 1) n

    abbrev q : List ℕ
    q = leave n (stack w m)

    flags : (s : ℕ) → get_or w1 (flag_cell s) 0 ≡ get_or w (flag_cell s) 0
    flags s = o.rest (flag_cell s) (λ j b e. let z : ⊥ = omega arith in z)

    good1 : Suspects count w1 q
    good1 = suspects_same count w w1 q (λ s l. flags s) (suspects_leave count w n (stack w m) g)

    long1 : length w1 ≡ length w
    long1 = o.len

    long2 : length w2 ≡ length w
    long2 = pushed_length w1 k t ∙ long1

    stack2 : stack w2 (k + 1) ≡ t ∷ q
    stack2 = pushed_stack w1 k t (let a = reborn_less in let e = long1 in omega arith) ∙ ap (λ (x : List ℕ). t ∷ x) o.stack_is

    stack3 : stack w3 (k + 1 + 1) ≡ n ∷ t ∷ q
    stack3 = pushed_stack w2 (k + 1) n (let a = reborn_less in let e = long2 in omega arith) ∙ ap (λ (x : List ℕ). n ∷ x) stack2

    good2 : Suspects count w2 (t ∷ q)
    good2 = pushed_suspects w1 k t count q tl (let e = long1 in omega arith) (fresh_leave n t (stack w m) f) good1

    fresh2 : Fresh n (t ∷ q)
    unfolding Fresh
    fresh2 = (tn, fresh_gone n (stack w m))

    good3 : Suspects count w3 (n ∷ t ∷ q)
    good3 = pushed_suspects w2 (k + 1) n count (t ∷ q) nl (let e = long2 in omega arith) fresh2 good2

    reborn_at : (r : ℕ) → r ≡ k + 1 + 1 → Reborn count w m t n w3 r
    reborn_at r e = record {
      aside =
          aside_trans (left_aside count w m n w1 k (let a = reborn_few in omega arith) o)
          (aside_trans (pushed_aside w1 k t count (let a = reborn_less in omega arith) tl) (pushed_aside w2 (k + 1) n count (let a = reborn_less in omega arith) nl));
      stack_is = ap (stack w3) e ∙ stack3;
      suspects = subst (Suspects count w3) (sym (ap (stack w3) e ∙ stack3)) good3;
    }

    pub reborn_is : (w2' w3' : List ℕ) → w2' ≡ w2 → w3' ≡ pushed w2' (k + 1) n → Reborn count w m t n w3' (k + 2)
    reborn_is w2' w3' e i = rw (i, e) (reborn_at (k + 2) (omega arith))
