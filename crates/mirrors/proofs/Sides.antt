-- One side of the cavity: the code's filling of its places of the chain is the model's filling of the closed chain. Assumes nothing.
use mathlib.Core.List.{List}
use mathlib.Core.Path.{◌≡◌, refl, sym, ap, ◌∙◌, subst}
use Prim.Native.Nat.{ℕ, suc, ◌+◌, ◌-◌, ◌*◌, ◌≤◌, ◌<◌}
use native.Mathlib.Omega.{arith}
use lib.IntN.{ℤ}
use lib.ListN.{length}
use Rattle.plane.specs.Points.{Pt}
use Rattle.cavities.specs.Changes.{Moved, Joined}
use Rattle.cavities.specs.Fillings.{Slots, Gaps, Cut, Fill, gap, node, Ready}
use Rattle.cavities.specs.Nets.{Net, World}
use Rattle.cavities.specs.Tilings.{CcwP}
use Rattle.cavities.proofs.Fill.{fill_part, fill_slots, le_self}
use Rattle.chains.specs.Fillings.{FillW}
use Rattle.mirrors.specs.Models.{Ghost, model_of}
use Rattle.mirrors.proofs.Filling.{fills, fill_some}

-- ---- a chain whose places are shifted by d, with the same slots

module _ (c gp slot c' gp' slot' : ℕ → ℕ) (d : ℕ) where
  pub record Shift (i j p q : ℕ) : Type 0 where
    pub corner : (x : ℕ) → i ≤ x → x ≤ j → c' (d + x) ≡ c x
    pub gaps : (x : ℕ) → i ≤ x → x < j → gp' (d + x) ≡ gp x
    pub slots : (y : ℕ) → p ≤ y → y < q → slot' y ≡ slot y

  module _ (Ccw : ℕ → ℕ → ℕ → Type 0) where
    shift_at : {I J p q T : ℕ} {σ σ' : Net} → Fill Ccw c' gp' slot' I J p q T σ σ' → (i j : ℕ) → I ≡ d + i → J ≡ d + j → (top : ℕ) → T ≡ top → Shift i j p q → Fill Ccw c gp slot i j p q top σ σ'
    shift_at (gap {i = I} {p = p} {P = T} {σ = σ} {σ' = σ'} m) i j e f top et s =
        let q : suc i ≡ j = omega arith in
        subst (λ (y : ℕ). Fill Ccw c gp slot i y p p top σ σ') q
        (gap (subst (λ (v : ℕ). Moved σ σ' (gp i) v) et (subst (λ (o : ℕ). Moved σ σ' o T) (ap gp' e ∙ s.gaps i le_self (omega arith)) m)))
    shift_at (node {i = I} {k = K} {j = J} {p = p} {q = q} {r = r} {P = T} {σ = σ} {σ0 = σ0} {σ1 = σ1} {σ2 = σ2} {σ3 = σ3} t w f g z) i j e h top et s =
        whole (shift_at f) (shift_at g) (fill_part Ccw c' gp' slot' f) (fill_part Ccw c' gp' slot' g) (fill_slots Ccw c' gp' slot' f) (fill_slots Ccw c' gp' slot' g)
      where
        whole : ((i k : ℕ) → I ≡ d + i → K ≡ d + k → (top : ℕ) → 3 * slot' r + 2 ≡ top → Shift i k p q → Fill Ccw c gp slot i k p q top σ0 σ1)
            → ((k j : ℕ) → K ≡ d + k → J ≡ d + j → (top : ℕ) → 3 * slot' r + 1 ≡ top → Shift k j q r → Fill Ccw c gp slot k j q r top σ1 σ2)
            → I < K → K < J → p ≤ q → q ≤ r → Fill Ccw c gp slot i j p (suc r) top σ σ3
        whole ihl ihr ik kj pq qr =
            let k = K - d in let ke : K ≡ d + k = omega arith in
            let ci : c' I ≡ c i = ap c' e ∙ s.corner i le_self (omega arith) in
            let cj : c' J ≡ c j = ap c' h ∙ s.corner j (omega arith) le_self in
            let ck : c' K ≡ c k = ap c' ke ∙ s.corner k (omega arith) (omega arith) in
            let sr : slot' r ≡ slot r = s.slots r (omega arith) le_self in
            node (subst (λ (u : ℕ). Ccw (c i) (c j) u) ck (subst (λ (u : ℕ). Ccw (c i) u (c' K)) cj (subst (λ (u : ℕ). Ccw u (c' J) (c' K)) ci t)))
            (subst (λ (u : ℕ). Cut σ σ0 u (c i) (c j) (c k)) sr
            (subst (λ (u : ℕ). Cut σ σ0 (slot' r) (c i) (c j) u) ck (subst (λ (u : ℕ). Cut σ σ0 (slot' r) (c i) u (c' K)) cj (subst (λ (u : ℕ). Cut σ σ0 (slot' r) u (c' J) (c' K)) ci w))))
            (ihl i k e ke (3 * slot r + 2) (ap (λ (u : ℕ). 3 * u + 2) sr)
            (record { corner = λ x a b. s.corner x a (omega arith); gaps = λ x a b. s.gaps x a (omega arith); slots = λ y a b. s.slots y a (omega arith) }))
            (ihr k j ke h (3 * slot r + 1) (ap (λ (u : ℕ). 3 * u + 1) sr)
            (record { corner = λ x a b. s.corner x (omega arith) b; gaps = λ x a b. s.gaps x (omega arith) b; slots = λ y a b. s.slots y (omega arith) (omega arith) }))
            (subst (λ (v : ℕ). Joined σ2 σ3 (3 * slot r) v) et (subst (λ (u : ℕ). Joined σ2 σ3 (3 * u) T) sr z))

    pub shifted : {p q top : ℕ} {σ σ' : Net} (i j : ℕ) → Fill Ccw c' gp' slot' (d + i) (d + j) p q top σ σ' → Shift i j p q → Fill Ccw c gp slot i j p q top σ σ'
    shifted {top = top} i j f s = shift_at f i j refl refl top refl s

  module _ (W : World) (i j p q top : ℕ) (σ : Net) (s : Shift i j p q) (rdy : Ready W c gp slot i j p q top σ) (some : i < j) where
    at : (x : ℕ) → d + i ≤ x → x ≡ d + (x - d)
    at x l = omega arith

    gap_is : (x : ℕ) → d + i ≤ x → x < d + j → gp' x ≡ gp (x - d)
    gap_is x l h = ap gp' (at x l) ∙ s.gaps (x - d) (omega arith) (omega arith)

    down : (h : ℕ) → Gaps gp' (d + i) (d + j) h → Gaps gp i j h
    down h g = let l = g.low in let k = g.high in record { at = g.at - d; low = omega arith; high = omega arith; is = g.is ∙ gap_is g.at g.low g.high }

    own : (h : ℕ) → Slots slot' p q h → Slots slot p q h
    own h y = record { at = y.at; k = y.k; low = y.low; high = y.high; three = y.three; is = y.is ∙ ap (λ (u : ℕ). 3 * u + y.k) (s.slots y.at y.low y.high) }

    apart : (x y : ℕ) → d + i ≤ x → x < d + j → d + i ≤ y → y < d + j → gp' x ≡ gp' y → x ≡ y
    apart x y a b e f q = let z = rdy.gap_apart (x - d) (y - d) (omega arith) (omega arith) (omega arith) (omega arith) (sym (gap_is x a b) ∙ q ∙ gap_is y e f) in omega arith

    next : (x : ℕ) → d + i ≤ x → suc (x - d) ≡ suc x - d
    next x l = omega arith

    -- what is ready for the closed chain is so for the code's places
    pub ready_shift : Ready W c' gp' slot' (d + i) (d + j) p q top σ
    ready_shift = record {
      inv = rdy.inv;
      gap_live = λ h g. rdy.gap_live h (down h g);
      gap_apart = apart;
      gap_org = λ x l h. ap σ.org (gap_is x l h) ∙ rdy.gap_org (x - d) (omega arith) (omega arith) ∙ ap c (next x l) ∙
          sym (s.corner (suc x - d) (omega arith) (omega arith)) ∙ ap c' (let z : d + (suc x - d) ≡ suc x = omega arith in z);
      gap_dst = λ x l h. ap σ.dst (gap_is x l h) ∙ rdy.gap_dst (x - d) (omega arith) (omega arith) ∙ sym (s.corner (x - d) (omega arith) (omega arith)) ∙ ap c' (sym (at x l));
      slot_dead = λ h y. rdy.slot_dead h (own h y);
      slot_low = λ h y. rdy.slot_low h (own h y);
      slot_apart = λ y z a b e f u. rdy.slot_apart y z a b e f (sym (s.slots y a b) ∙ u ∙ s.slots z e f);
      top_dead = rdy.top_dead;
      top_low = rdy.top_low;
      top_org = rdy.top_org ∙ sym (s.corner j (omega arith) (omega arith));
      top_dst = rdy.top_dst ∙ sym (s.corner i (omega arith) (omega arith));
      top_out = λ y. rdy.top_out (own top y);
    }

-- ---- one side

pub record Filled (P : ℕ → Pt ℤ) (c gp slot : ℕ → ℕ) (n i j p q top : ℕ) (w w' : List ℕ) (G : Ghost) : Type 0 where
  pub ghost : Ghost
  pub fill : Fill (CcwP P) c gp slot i j p q top (model_of n w G) (model_of n w' ghost)
  pub long : length w' ≡ length w

-- THE CODE'S FILLING OF A SIDE IS THE MODEL'S
pub one_side : (P : ℕ → Pt ℤ) (W : World) (n : ℕ) → W.bound ≤ 12 * n → (c gp slot ch slot' : ℕ → ℕ) (d i j p q top : ℕ) (w w' : List ℕ) (G : Ghost)
    → Shift c gp slot ch (λ x. 6 * n + x) slot' d i j p q → ((y : ℕ) → y < q → slot' y < 2 * n) → ¬ (ch (d + j) ≡ ch (d + i)) → 64 * n ≤ length w
    → FillW P (6 * n) ch slot' (d + i) (d + j) p q top w w' → Ready W c gp slot i j p q top (model_of n w G) → Filled P c gp slot n i j p q top w w' G
one_side P W n bound c gp slot ch slot' d i j p q top w w' G s low two long f rdy =
    let l = fill_some P f in
    let g = fills P W n bound ch slot' q low f G long two le_self (ready_shift c gp slot ch (λ x. 6 * n + x) slot' d W i j p q top (model_of n w G) s rdy (omega arith)) in
    record { ghost = g.ghost; fill = shifted c gp slot ch (λ x. 6 * n + x) slot' d (CcwP P) i j g.fill s; long = g.long }
