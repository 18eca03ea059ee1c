use Rattle.std.proofs.Common.{◌≡◌, ◌≢◌, ◌≤◌, ◌^◌, ℤ, pos, ◌-ℤ◌, unsigned_abs, w64, to_z, of_z, arith, true, false, refl, ap₂, sym, ◌∙◌, subst}
use Rattle.std.specs.Prelude.{◌<ℤ◌, ◌≤ℤ◌}
use Rattle.std.proofs.lemmas.Int.{ints}
use lib.IntN.{neg_ℤ}
use lib.Signed.{lt_z}
use Rattle.kin_instant.proofs.Widths.{clean-abs, opposite-value, less_out, not_less_out}
use Rattle.kin_instant.proofs.RationalRoots.{line_small}
use Rattle.kin_instant.proofs.next.root_of_line.Goals as goal
use Rattle.kin_instant.proofs.next.root_of_line.Goals.{then-b-gt0, else-b-gt0}

abbrev as_read : ℤ → ℤ
as_read z = to_z w64 (of_z w64 z)

-- the fraction n/d, with d above 0, at which b*t + c is 0
record IsRoot (b c n d : ℤ) : Type 0 where
  n_small : unsigned_abs n ≤ 2 ^ 31
  d_small : unsigned_abs d ≤ 2 ^ 31
  positive : pos 0 <ℤ d
  rising : pos 0 <ℤ b → (n ≡ neg_ℤ c) × (d ≡ b)
  falling : b <ℤ pos 0 → (n ≡ c) × (d ≡ neg_ℤ b)

rises : (b c : ℤ) → unsigned_abs b ≤ 2 ^ 31 → unsigned_abs c ≤ 2 ^ 31 → pos 0 <ℤ b → IsRoot b c (neg_ℤ c) b
rises b c h k l = record {
  n_small = omega (arith, ints);
  d_small = omega arith;
  positive = l;
  rising = λ _. (refl, refl);
  falling = λ m. absurd (omega (arith, ints));
}

falls : (b c : ℤ) → unsigned_abs b ≤ 2 ^ 31 → unsigned_abs c ≤ 2 ^ 31 → b ≤ℤ pos 0 → b ≢ pos 0 → IsRoot b c c (neg_ℤ b)
falls b c h k l some = record {
  n_small = omega arith;
  d_small = omega (arith, ints);
  positive = omega (arith, ints, some);
  rising = λ m. absurd (omega (arith, ints));
  falling = λ _. (refl, refl);
}

-- the pair as the code reads it
as_pair : (b c n d : ℤ) (pair : ℤ × ℤ) → pair ≡ (n, d) → IsRoot b c n d → IsRoot b c (as_read pair.0) (as_read pair.1)
as_pair b c n d pair e r = rw (e, read n r.n_small, read d r.d_small) r
  where
    read : (x : ℤ) → unsigned_abs x ≤ 2 ^ 31 → as_read x ≡ x
    read x h = clean-abs w64 x (omega arith)

module _ (b c : ℤ) (h : unsigned_abs b ≤ 2 ^ 31) (k : unsigned_abs c ≤ 2 ^ 31) (pair : ℤ × ℤ) where
  read : (x : ℤ) → unsigned_abs x ≤ 2 ^ 31 → as_read x ≡ x
  read x l = clean-abs w64 x (omega arith)

  rising_pair : lt_z (pos 0) (as_read b) ≡ true → pair ≡ (as_read (pos 0 -ℤ as_read c), as_read b) → IsRoot b c (as_read pair.0) (as_read pair.1)
  rising_pair l e = as_pair b c (neg_ℤ c) b pair (e ∙ ap₂ (λ x y. (x, y)) (opposite-value c k) (read b h)) (rises b c h k (subst (λ x. pos 0 <ℤ x) (read b h) (less_out (pos 0) (as_read b) l)))

  falling_pair : b ≢ pos 0 → lt_z (pos 0) (as_read b) ≡ false → pair ≡ (as_read c, as_read (pos 0 -ℤ as_read b)) → IsRoot b c (as_read pair.0) (as_read pair.1)
  falling_pair some l e = as_pair b c c (neg_ℤ b) pair (e ∙ ap₂ (λ x y. (x, y)) (read c k) (opposite-value b h)) (falls b c h k (subst (λ x. x ≤ℤ pos 0) (read b h) (not_less_out (pos 0) (as_read b) l)) some)

wide : (x : ℤ) → unsigned_abs x ≤ 2 ^ 29 → unsigned_abs x ≤ 2 ^ 31
wide x h = omega arith

pub returns : goal.returns
returns c =
    let b = c.b-b.result in
    let z = c.c-c.result in
    let some : c.b-b.result ≢ pos 0 = λ e. c.requires.sloped (sym c.b-b.ensures.value ∙ e) in
    let root : IsRoot c.args.p.now.b c.args.p.now.c (as_read c.if-b-gt0.n.0) (as_read c.if-b-gt0.n.1) = elim c.if-b-gt0.branch [
      | then-b-gt0 w ↦ rw (c.b-b.ensures.value, c.c-c.ensures.value) at (rising_pair b z c.b-b.ensures.small (wide z c.c-c.ensures.small) c.if-b-gt0.n w.if-b-gt0.true w.n-is)
      | else-b-gt0 w ↦ rw (c.b-b.ensures.value, c.c-c.ensures.value) at (falling_pair b z c.b-b.ensures.small (wide z c.c-c.ensures.small) c.if-b-gt0.n some w.if-b-gt0.false w.n-is)
    ] in
    record {
      rising = λ h. let e = root.rising h in rw (e.0, e.1) at c.reduced.ensures.value;
      falling = λ h. let e = root.falling h in rw (e.0, e.1) at c.reduced.ensures.value;
      canonical = c.reduced.ensures.canonical;
    }

pub reduced-requires : goal.reduced-requires
reduced-requires c =
    let b = c.b-b.result in
    let z = c.c-c.result in
    let some : c.b-b.result ≢ pos 0 = λ e. c.requires.sloped (sym c.b-b.ensures.value ∙ e) in
    let root : IsRoot c.b-b.result c.c-c.result (as_read c.if-b-gt0.n.0) (as_read c.if-b-gt0.n.1) = elim c.if-b-gt0.branch [
      | then-b-gt0 w ↦ rising_pair b z c.b-b.ensures.small (wide z c.c-c.ensures.small) c.if-b-gt0.n w.if-b-gt0.true w.n-is
      | else-b-gt0 w ↦ falling_pair b z c.b-b.ensures.small (wide z c.c-c.ensures.small) c.if-b-gt0.n some w.if-b-gt0.false w.n-is
    ] in
    record {
      n_fits = omega (arith, root.n_small);
      d_fits = omega (arith, root.d_small);
      d_positive = root.positive;
      small = line_small (as_read c.if-b-gt0.n.0) (as_read c.if-b-gt0.n.1) root.positive root.n_small root.d_small;
    }
