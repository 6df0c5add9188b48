-- A point strictly inside a triangle, or inside an inner edge, is strictly inside the base. Assumes nothing.
use mathlib.Core.List.{[], ◌∷◌}
use mathlib.Core.Logic.{◌⊎◌, inl, inr}
use mathlib.Core.Path.{◌≡◌, sym, ap, ap₂, ◌∙◌}
use lib.IntN.{ℤ, pos, ◌+ℤ◌, ◌*ℤ◌, zero-*ℤ, *ℤ-zero, +ℤ_idr, +ℤ_invl}
use Rattle.algebra.proofs.Order.{pos_by, pos_nn, pos*pos, pos+nn, nn+pos, nn*nn, nn+nn, pos_cancel, not_zero, Sign, is_pos, is_below_zero, is_zero, sign}
use Rattle.algebra.proofs.Ring.{var, con, ◌⊕◌, ◌⊗◌, ⊝◌, solve}
use Rattle.algebra.specs.Order.{Pos, NonNeg}
use Rattle.plane.proofs.Orient.{orient_cyc, orient_swap}
use Rattle.plane.specs.Determinants.{orient}
use Rattle.plane.specs.Points.{Pt}
use Rattle.nets.proofs.SplitTile.{line_poly}

-- what is not negative: positive or zero
pub nn_sign : (z : ℤ) → NonNeg z → Pos z ⊎ (z ≡ pos 0)
nn_sign z n = go (sign z)
  where
    go : Sign z → Pos z ⊎ (z ≡ pos 0)
    go (is_pos p) = inl p
    go (is_zero e) = inr e
    go (is_below_zero q) = absurd (not_zero (pos+nn q n) (+ℤ_invl z))

zap : {z : ℤ} → z ≡ pos 0 → (y : ℤ) → z *ℤ y ≡ pos 0
zap e y = ap (λ (x : ℤ). x *ℤ y) e ∙ zero-*ℤ y

-- the corners of a triangle are not all on one line
not_flat : (u v w a b c : Pt ℤ) → Pos (orient u v w) → Pos (orient a b c) → orient u v a ≡ pos 0 → orient u v b ≡ pos 0 → orient u v c ≡ pos 0 → ⊥
not_flat u v w a b c h k i j l =
    not_zero (pos*pos k h)
    (line_poly u v w a b c ∙ ap₂ (λ (x y : ℤ). x +ℤ y) (ap₂ (λ (x y : ℤ). x +ℤ y) (zap i (orient w b c)) (zap j (orient a w c))) (zap l (orient a b w)))

-- weights, two or three of them, of what is not negative
weigh2 : (x y s t : ℤ) → Pos x → Pos y → NonNeg s → NonNeg t → (s ≡ pos 0 → t ≡ pos 0 → ⊥) → Pos (s *ℤ x +ℤ t *ℤ y)
weigh2 x y s t p q i j f = go (nn_sign s i) (nn_sign t j)
  where
    go : Pos s ⊎ (s ≡ pos 0) → Pos t ⊎ (t ≡ pos 0) → Pos (s *ℤ x +ℤ t *ℤ y)
    go (inl a) b = pos+nn (pos*pos a p) (nn*nn j (pos_nn q))
    go (inr a) (inl b) = nn+pos (nn*nn i (pos_nn p)) (pos*pos b q)
    go (inr a) (inr b) = absurd (f a b)

weigh3 : (x y z s t r : ℤ) → Pos x → Pos y → Pos z → NonNeg s → NonNeg t → NonNeg r → (s ≡ pos 0 → t ≡ pos 0 → r ≡ pos 0 → ⊥) → Pos (s *ℤ x +ℤ t *ℤ y +ℤ r *ℤ z)
weigh3 x y z s t r p q o i j k f = go (nn_sign r k)
  where
    go : Pos r ⊎ (r ≡ pos 0) → Pos (s *ℤ x +ℤ t *ℤ y +ℤ r *ℤ z)
    go (inl a) = nn+pos (nn+nn (nn*nn i (pos_nn p)) (nn*nn j (pos_nn q))) (pos*pos a o)
    go (inr a) = pos+nn (weigh2 x y s t p q i j (λ b c. f b c a)) (nn*nn k (pos_nn o))

module _ (u v w a b c p : Pt ℤ) (base : Pos (orient u v w)) (abc : Pos (orient a b c)) (ia : NonNeg (orient u v a)) (ib : NonNeg (orient u v b)) (ic : NonNeg (orient u v c)) where
  pub inside_pos : Pos (orient a b p) → Pos (orient b c p) → Pos (orient c a p) → Pos (orient u v p)
  inside_pos x y z =
      pos_cancel (pos_nn abc)
      (pos_by (line_poly u v p a b c)
      (weigh3 (orient p b c) (orient a p c) (orient a b p) (orient u v a) (orient u v b) (orient u v c) (pos_by (orient_cyc p b c) y)
      (pos_by (sym (orient_cyc c a p)) z) x ia ib ic (not_flat u v w a b c base abc)))

  -- a and b on the line: then c and d, on two sides of it, both
  pub two_sides : (d : Pt ℤ) → Pos (orient b a d) → NonNeg (orient u v d) → orient u v a ≡ pos 0 → orient u v b ≡ pos 0 → ⊥
  two_sides d bad id i j = go (nn_sign (orient u v c) ic)
    where
      sum : orient a b c *ℤ orient u v d +ℤ orient u v c *ℤ orient b a d ≡ pos 0
      sum =
          ap (λ (q : ℤ). q +ℤ orient u v c *ℤ orient b a d) (line_poly u v d a b c
          ∙ ap₂ (λ (x y : ℤ). x +ℤ y +ℤ orient u v c *ℤ orient a b d) (zap i (orient d b c)) (zap j (orient a d c))
          ∙ ap (λ (q : ℤ). pos 0 +ℤ pos 0 +ℤ orient u v c *ℤ q) (orient_swap a b d)) ∙
          solve (con (pos 0) ⊕ con (pos 0) ⊕ var 0 ⊗ (⊝ var 1) ⊕ var 0 ⊗ var 1) (con (pos 0)) (orient u v c ∷ orient b a d ∷ []) tt

      go : Pos (orient u v c) ⊎ (orient u v c ≡ pos 0) → ⊥
      go (inl q) = not_zero (nn+pos (nn*nn (pos_nn abc) id) (pos*pos q bad)) sum
      go (inr q) = not_flat u v w a b c base abc i j q

  pub edge_pos : (d : Pt ℤ) → Pos (orient b a d) → NonNeg (orient u v d) → orient a b p ≡ pos 0 → Pos (orient b c p) → Pos (orient c a p) → Pos (orient u v p)
  edge_pos d bad id on y z =
      pos_cancel (pos_nn abc)
      (pos_by (line_poly u v p a b c ∙ ap (λ (q : ℤ). orient u v a *ℤ orient p b c +ℤ orient u v b *ℤ orient a p c +ℤ orient u v c *ℤ q) on ∙ drop)
      (weigh2 (orient p b c) (orient a p c) (orient u v a) (orient u v b) (pos_by (orient_cyc p b c) y) (pos_by (sym (orient_cyc c a p)) z) ia ib (two_sides d bad id)))
    where
      drop : orient u v a *ℤ orient p b c +ℤ orient u v b *ℤ orient a p c +ℤ orient u v c *ℤ pos 0 ≡ orient u v a *ℤ orient p b c +ℤ orient u v b *ℤ orient a p c
      drop = ap (λ (q : ℤ). orient u v a *ℤ orient p b c +ℤ orient u v b *ℤ orient a p c +ℤ q) (*ℤ-zero (orient u v c)) ∙ +ℤ_idr (orient u v a *ℤ orient p b c +ℤ orient u v b *ℤ orient a p c)
