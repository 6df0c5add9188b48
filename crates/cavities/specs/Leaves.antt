-- The small changes as functions from a net to a net. Definitions only.
use Rattle.std.specs.Prelude.{true, false, cond, ℕ, ◌+◌, ◌*◌, eqb}
use Rattle.cavities.specs.Nets.{Net}

-- one place changed
unfoldable pub put : {A : Type 0} → (ℕ → A) → ℕ → A → ℕ → A
put f k a h = cond (eqb h k) a (f h)

-- the three places of slot s changed
unfoldable pub put3 : (ℕ → ℕ) → ℕ → ℕ → ℕ → ℕ → ℕ → ℕ
put3 f s a b c = put (put (put f (3 * s) a) (3 * s + 1) b) (3 * s + 2) c

-- the corners a, b, c of slot s are written
unfoldable pub cut_net : Net → ℕ → ℕ → ℕ → ℕ → Net
cut_net σ s a b c = record { live = σ.live; org = put3 σ.org s a b c; dst = put3 σ.dst s b c a; mark = σ.mark; has = σ.has; mate = σ.mate; side = σ.side }

-- the partners x and y die
unfoldable pub drop_net : Net → ℕ → ℕ → Net
drop_net σ x y = record { live = put (put σ.live x false) y false; org = σ.org; dst = σ.dst; mark = σ.mark; has = σ.has; mate = σ.mate; side = σ.side }

-- x and y become partners
unfoldable pub join_net : Net → ℕ → ℕ → Net
join_net σ x y = record {
  live = put (put σ.live x true) y true;
  org = σ.org;
  dst = σ.dst;
  mark = put (put σ.mark x 0) y 0;
  has = put (put σ.has x true) y true;
  mate = put (put σ.mate x y) y x;
  side = σ.side;
}

-- the partner of o, if there is one, gets v for its partner
unfoldable pub relink : Net → ℕ → ℕ → ℕ → ℕ
relink σ o v = cond (σ.has o) (put σ.mate (σ.mate o) v) σ.mate

-- the half-edge o moves to the number v
unfoldable pub park_net : Net → ℕ → ℕ → Net
park_net σ o v = record {
  live = put (put σ.live o false) v true;
  org = put σ.org v (σ.org o);
  dst = put σ.dst v (σ.dst o);
  mark = put σ.mark v (σ.mark o);
  has = put σ.has v (σ.has o);
  mate = put (relink σ o v) v (σ.mate o);
  side = put σ.side v (σ.side o);
}
