-- The crossed slots come on the stack of suspects one after another. Assumes nothing.
use mathlib.Core.List.{List, ◌∷◌}
use mathlib.Core.Path.{◌≡◌, refl, sym, ap, ◌∙◌, subst}
use Prim.Native.Nat.{ℕ, zero, suc, ◌+◌, ◌*◌, ◌≤◌, ◌<◌}
use native.Mathlib.Numerals.{add-one}
use native.Mathlib.Omega.{arith}
use lib.ListN.{length}
use Rattle.nets.specs.Layout.{cell, net_of, rank_cell}
use Rattle.nets.proofs.Memory.{net_eq}
use Rattle.suspects.specs.Stack.{stack, Fresh, Suspects, pushed, Aside}
use Rattle.suspects.proofs.Stack.{stack_none, pushed_stack, pushed_suspects, pushed_aside, aside_trans}
use Rattle.chains.specs.Areas.{slot_cell, slot_of, Room}
use Rattle.carving.specs.Suspecting.{Different, down_from, Suspected}

-- the first m of them are suspects
pub record Pushing (n t m : ℕ) (w w' : List ℕ) : Type 0 where
  pub aside : Aside t w w'
  pub stack_is : stack w' m ≡ down_from (slot_of n w) m
  pub suspects : Suspects t w' (down_from (slot_of n w) m)

aside_none : (t : ℕ) (w : List ℕ) → Aside t w w
aside_none t w = record { len = refl; under = λ c l. refl; over = λ c l. refl; beyond = λ c l. refl }

pub pushing_none : (n t : ℕ) (w : List ℕ) → Pushing n t 0 w w
unfolding down_from Suspects
pushing_none n t w = record { aside = aside_none t w; stack_is = stack_none w; suspects = tt }

down_more : (slot : ℕ → ℕ) (m : ℕ) → down_from slot (m + 1) ≡ slot m ∷ down_from slot m
unfolding down_from
down_more slot m = rw add-one

fresh_down : (slot : ℕ → ℕ) (s m : ℕ) → ((i : ℕ) → i < m → ¬ (slot i ≡ s)) → Fresh s (down_from slot m)
unfolding down_from Fresh
fresh_down slot s zero f = tt
fresh_down slot s (suc m) f = (f m (omega arith), fresh_down slot s m (λ i l. f i (omega arith)))

module _ {n t : ℕ} {w : List ℕ} (room : Room n t w) where
  -- the crossed slots stand beyond the suspects
  pub aside_slot : {w' : List ℕ} → Aside t w w' → (y : ℕ) → slot_of n w' y ≡ slot_of n w y
  unfolding slot_of
  aside_slot o y = let z = room.less in o.beyond (slot_cell n y) (omega arith)

  pub pushing_more : {k m s : ℕ} {w' w'' : List ℕ} → k ≤ t → Different k (slot_of n w) → m < k → Pushing n t m w w' → s ≡ slot_of n w' m → w'' ≡ pushed w' m s → Pushing n t (m + 1) w w''
  pushing_more {k} {m} {s} {w'} {w''} few d l o e i = subst (Pushing n t (m + 1) w) (sym i) (record {
    aside = aside_trans o.aside (pushed_aside w' m s t (omega arith) low);
    stack_is = pushed_stack w' m s (let z = less in let y = wide in let x = long in omega arith) ∙ ap (λ (q : List ℕ). s ∷ q) o.stack_is
        ∙ ap (λ (x : ℕ). x ∷ down_from (slot_of n w) m) is ∙ sym (down_more (slot_of n w) m);
    suspects = subst (Suspects t (pushed w' m s)) (ap (λ (x : ℕ). x ∷ down_from (slot_of n w) m) is ∙ sym (down_more (slot_of n w) m))
        (pushed_suspects w' m s t (down_from (slot_of n w) m) low (let z = less in let y = wide in let x = long in let v = low in omega arith) fresh o.suspects);
  })
    where
      is : s ≡ slot_of n w m
      is = e ∙ aside_slot o.aside m

      less : t + 5 ≤ 2 * n
      less = room.less

      low : s < t
      low = subst (λ (x : ℕ). x < t) (sym is) (room.slots m (let z = less in omega arith))

      long : length w' ≡ length w
      long = o.aside.len

      wide : 64 * n ≤ length w
      wide = room.long

      fresh : Fresh s (down_from (slot_of n w) m)
      fresh = fresh_down (slot_of n w) s m (λ j b z. d j m b l (z ∙ is))

  pub suspected : {k : ℕ} {w' : List ℕ} → Pushing n t k w w' → Suspected n t k w w'
  unfolding net_of cell
  suspected {k} {w'} o = record {
    stack_is = o.stack_is;
    suspects = subst (Suspects t w') (sym o.stack_is) o.suspects;
    net = λ T. net_eq (net_of w' T) (net_of w T) refl (λ h. o.aside.under (cell 0 h) (omega arith)) (λ h. o.aside.under (cell 3 h) (omega arith)) (λ h. o.aside.under (cell 6 h) (omega arith));
    aside = o.aside;
    kept = record {
      len = o.aside.len;
      ranks = λ i. o.aside.over (rank_cell i) (omega arith);
      free = λ i f a b. o.aside.over (16 * i + f) (omega arith);
      rest = λ c l. o.aside.beyond c (let z = room.less in omega arith);
    };
  }
