-- A net of triangles by half-edges: half-edge h = 3 t + k is the k-th of triangle t, from corner org h to the next corner. adj h is the
-- partner's number and 1, or 0 for none; con h the mark. `carry`: what keeps a net linked. Assumes nothing.
use mathlib.Core.Path.{◌≡◌, refl, sym, ap, ◌∙◌, subst}
use Prim.Native.Nat.{ℕ, zero, suc, ◌*◌, ◌<◌}
use native.Mathlib.Omega.{arith}
use Rattle.nets.specs.Nets.{Net, dst, Linked}

-- the other end, too
pub to : {S : ℕ → ℕ → Type 0} {m : Net} → Linked S m → (h g : ℕ) → h < 3 * m.tris → m.adj h ≡ suc g → dst m g ≡ m.org h
to l h g b e = sym (l.from g h (l.low h g b e) (l.back h g b e))

-- ---- half-edges renamed

abbrev pub ren+ : (ℕ → ℕ) → ℕ → ℕ
ren+ r zero = zero
ren+ r (suc g) = suc (r g)

-- a half-edge of the new net: one of the old, one of a new pair, or one along the base
pub data Fits (S : ℕ → ℕ → Type 0) (m m' : Net) (Kept : ℕ → Type 0) (ren : ℕ → ℕ) (h' : ℕ) : Type 0 where
  kept : (h : ℕ) → h < 3 * m.tris → Kept h → ren h ≡ h' → Fits S m m' Kept ren h'
  fresh : (g : ℕ) → g < 3 * m'.tris → m'.adj h' ≡ suc g → m'.adj g ≡ suc h' → m'.org g ≡ dst m' h' → m'.con g ≡ m'.con h' → Fits S m m' Kept ren h'
  along : m'.adj h' ≡ 0 → S (m'.org h') (dst m' h') → Fits S m m' Kept ren h'

-- the same half-edge, but for its number
pub record Same (m m' : Net) (ren : ℕ → ℕ) (h : ℕ) : Type 0 where
  pub into : ren h < 3 * m'.tris
  pub adj_is : m'.adj (ren h) ≡ ren+ ren (m.adj h)
  pub org_is : m'.org (ren h) ≡ m.org h
  pub dst_is : dst m' (ren h) ≡ dst m h
  pub con_is : m'.con (ren h) ≡ m.con h

pub record Carried (S : ℕ → ℕ → Type 0) (m m' : Net) (Kept : ℕ → Type 0) (ren : ℕ → ℕ) : Type 0 where
  pub closed : (h g : ℕ) → h < 3 * m.tris → Kept h → m.adj h ≡ suc g → Kept g
  pub same : (h : ℕ) → h < 3 * m.tris → Kept h → Same m m' ren h
  pub fits : (h' : ℕ) → h' < 3 * m'.tris → Fits S m m' Kept ren h'

module _ {S : ℕ → ℕ → Type 0} {m m' : Net} {Kept : ℕ → Type 0} {ren : ℕ → ℕ} (l : Linked S m) (c : Carried S m m' Kept ren) where
  -- what holds of a new half-edge and its partner
  record Good (h' g' : ℕ) : Type 0 where
    low : g' < 3 * m'.tris
    back : m'.adj g' ≡ suc h'
    from : m'.org g' ≡ dst m' h'
    mark : m'.con g' ≡ m'.con h'

  suc_inj : (a b : ℕ) → suc a ≡ suc b → a ≡ b
  suc_inj a b e = omega arith

  no_suc : {X : Type 0} (a : ℕ) → 0 ≡ suc a → X
  no_suc a e = absurd (let z : ◌≡◌ {A = ℕ} 0 (suc a) = e in let f : ⊥ = omega arith in f)

  good_kept : (h : ℕ) → h < 3 * m.tris → Kept h → (a : ℕ) → m.adj h ≡ a → (g' : ℕ) → m'.adj (ren h) ≡ suc g' → Good (ren h) g'
  good_kept h b k zero e g' e' = no_suc g' (sym ((c.same h b k).adj_is ∙ ap (ren+ ren) e) ∙ e')
  good_kept h b k (suc g) e g' e' =
      let s = c.same h b k in
      let bg = l.low h g b e in
      let sg = c.same g bg (c.closed h g b k e) in
      let q : ren g ≡ g' = suc_inj (ren g) g' (sym (s.adj_is ∙ ap (ren+ ren) e) ∙ e') in
      subst (Good (ren h)) q (record {
        low = sg.into;
        back = sg.adj_is ∙ ap (ren+ ren) (l.back h g b e);
        from = sg.org_is ∙ l.from h g b e ∙ sym s.dst_is;
        mark = sg.con_is ∙ l.mark h g b e ∙ sym s.con_is;
      })

  good : (h' g' : ℕ) → m'.adj h' ≡ suc g' → Fits S m m' Kept ren h' → Good h' g'
  good h' g' e (kept h b k r) = subst (λ (x : ℕ). Good x g') r (good_kept h b k (m.adj h) refl g' (ap m'.adj r ∙ e))
  good h' g' e (fresh g b a a' o k) =
      let q : g ≡ g' = suc_inj g g' (sym a ∙ e) in
      subst (Good h') q (record { low = b; back = a'; from = o; mark = k })
  good h' g' e (along a s) = no_suc g' (sym a ∙ e)

  side_kept : (h : ℕ) → h < 3 * m.tris → Kept h → (a : ℕ) → m.adj h ≡ a → m'.adj (ren h) ≡ 0 → S (m'.org (ren h)) (dst m' (ren h))
  side_kept h b k zero e e' = let s = c.same h b k in rw (s.org_is, s.dst_is) (l.side h b e)
  side_kept h b k (suc g) e e' = no_suc (ren g) (sym e' ∙ (c.same h b k).adj_is ∙ ap (ren+ ren) e)

  side' : (h' : ℕ) → m'.adj h' ≡ 0 → Fits S m m' Kept ren h' → S (m'.org h') (dst m' h')
  side' h' e (kept h b k r) = subst (λ (x : ℕ). S (m'.org x) (dst m' x)) r (side_kept h b k (m.adj h) refl (ap m'.adj r ∙ e))
  side' h' e (fresh g b a a' o k) = no_suc g (sym e ∙ a)
  side' h' e (along a s) = s

  pub carry : Linked S m'
  carry = record {
    low = λ h g b e. (good h g e (c.fits h b)).low;
    back = λ h g b e. (good h g e (c.fits h b)).back;
    from = λ h g b e. (good h g e (c.fits h b)).from;
    mark = λ h g b e. (good h g e (c.fits h b)).mark;
    side = λ h b e. side' h e (c.fits h b);
  }
