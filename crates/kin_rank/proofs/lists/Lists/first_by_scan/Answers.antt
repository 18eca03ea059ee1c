use Rattle.std.proofs.Common.{◌≡◌, sym, ap, ◌∙◌, subst, arith, ◌<◌, ◌≤◌, ℕ, List, length, get_or, Some, None, inl, inr}
use Rattle.std.specs.Prelude.{slice_get}
use Rattle.std.proofs.lemmas.Bool.{cases_eq, cases_lt}
use Rattle.std.proofs.lemmas.List.{get_or_default}
use Rattle.std.proofs.lemmas.Option.{slice_get-get_or, slice_get_within, same_Some}
use Rattle.kin_rank.specs.declared.lists.Lists.{Lists}
use Rattle.kin_rank.specs.Finding.{IsBeyond}
use Rattle.kin_rank.specs.Leading.{place_in}
use Rattle.kin_rank.specs.Sound.{IsSound}
use Rattle.kin_rank.proofs.Placing.{below, read}
use Rattle.kin_rank.proofs.Sameness.{found_too}
use Rattle.kin_rank.proofs.Walking.{first_of_none, first_is}
use Rattle.kin_rank.proofs.lists.Lists.first_by_scan.Goals.{else-index-f_above-via-then-index-f_above+else-index-g_above, else-index-f_above-via-else-index-f_above}
use Rattle.kin_rank.proofs.lists.Lists.first_by_scan.Goals as goal

module _ (b : Lists) (sound : IsSound b) (ds : List ℕ) (seen : ds ≡ b.t.items.items) (k : ℕ) (low : k < length ds) where
  at_t : slice_get b.t.items.items k ≡ Some (get_or ds k 0)
  at_t = ap (λ (z : List ℕ). slice_get z k) (sym seen) ∙ slice_get-get_or ds k 0 low

  in_f : (p : ℕ) × (slice_get b.f.items.items p ≡ Some (get_or ds k 0))
  in_f = found_too b.t.items.items b.f.items.items (λ x. sym (sound.listed.same_t x)) k (get_or ds k 0) at_t

  in_g : (p : ℕ) × (slice_get b.g.items.items p ≡ Some (get_or ds k 0))
  in_g = found_too b.f.items.items b.g.items.items sound.listed.same_g in_f.0 (get_or ds k 0) in_f.1

  f_known : get_or ds k 0 < length b.f.places.items
  f_known = below b.f.items.items b.f.places.items sound.listed.f_placed in_f.0 (get_or ds k 0) in_f.1

  g_known : get_or ds k 0 < length b.g.places.items
  g_known = below b.g.items.items b.g.places.items sound.listed.g_placed in_g.0 (get_or ds k 0) in_g.1

  f_read : (r : ℕ) → r ≡ get_or b.f.places.items (get_or ds k 0) r → r ≡ in_f.0
  f_read r e = e ∙ get_or_default b.f.places.items (get_or ds k 0) r 0 f_known ∙ read b.f.items.items b.f.places.items sound.listed.f_placed in_f.0 (get_or ds k 0) in_f.1

  g_read : (r : ℕ) → r ≡ get_or b.g.places.items (get_or ds k 0) r → place_in b.g.places.items (get_or ds k 0) ≡ r
  g_read r e = sym (e ∙ get_or_default b.g.places.items (get_or ds k 0) r 0 g_known)

  -- where the place isn't great enough
  not_in_f : (fa ga r : ℕ) → r ≡ get_or b.f.places.items (get_or ds k 0) r → r ≤ fa → IsBeyond b.f.items.items b.g.places.items fa ga (get_or ds k 0) → ⊥
  not_in_f fa ga r e l u =
      let same : u.place ≡ in_f.0 = sym (read b.f.items.items b.f.places.items sound.listed.f_placed u.place (get_or ds k 0) u.at) ∙ read b.f.items.items b.f.places.items sound.listed.f_placed
      in_f.0 (get_or ds k 0) in_f.1 in
      let i = f_read r e in
      let a = u.f_after in
      absurd (omega (arith, same, i, a, l))

  not_in_g : (fa ga r : ℕ) → r ≡ get_or b.g.places.items (get_or ds k 0) r → r ≤ ga → IsBeyond b.f.items.items b.g.places.items fa ga (get_or ds k 0) → ⊥
  not_in_g fa ga r e l u = let i = g_read r e in let a = u.g_after in absurd (omega (arith, i, a, l))

-- a number beyond is in T
in_t : (b : Lists) → IsSound b → (fa ga y : ℕ) → IsBeyond b.f.items.items b.g.places.items fa ga y → (q : ℕ) × (slice_get b.t.items.items q ≡ Some y)
in_t b sound fa ga y u = found_too b.f.items.items b.t.items.items sound.listed.same_t u.place y u.at

pub index-requires : goal.index-requires
index-requires c = subst (λ n. get_or c.deref-no-items.result.now c.loop-no.no-index 0 < n) (sym c.args.self.now.f.places.ok.0)
    (f_known c.args.self.now c.requires c.deref-no-items.result.now c.deref-no-items.ensures.value c.loop-no.no-index c.loop-no-test.true)

pub index-requires-then-index-f_above : goal.index-requires-then-index-f_above
index-requires-then-index-f_above c = subst (λ n. get_or c.deref-no-items.result.now c.loop-no.no-index 0 < n) (sym c.args.self.now.g.places.ok.0)
    (g_known c.args.self.now c.requires c.deref-no-items.result.now c.deref-no-items.ensures.value c.loop-no.no-index c.loop-no-test.true)

pub returns-then-index-g_above : goal.returns-then-index-g_above
returns-then-index-g_above c =
    let b = c.args.self.now in
    let ds = c.deref-no-items.result.now in
    let k = c.loop-no.no-index in
    let seen = c.deref-no-items.ensures.value in
    let low = c.loop-no-test.true in
    let x = get_or ds k 0 in
    let t = at_t b c.requires ds seen k low in
    let p = in_f b c.requires ds seen k low in
    first_is b.t.places.items None _ x
    (record {
      place = p.0;
      at = p.1;
      f_after = let i = f_read b c.requires ds seen k low c.index.result.now c.index.ensures in let a = c.if-index-f_above.true in omega (arith, i, a);
      g_after = let i = g_read b c.requires ds seen k low c.index-then-index-f_above.result.now c.index-then-index-f_above.ensures in let a = c.if-index-g_above.true in omega (arith, i, a);
    })
    (λ y e. absurd cc)
    (λ y u.
    let q = in_t b c.requires c.args.f_above c.args.g_above y u in
    let i = read b.t.items.items b.t.places.items c.requires.listed.t_placed k x t in
    let j = read b.t.items.items b.t.places.items c.requires.listed.t_placed q.0 y q.1 in
    elim (cases_lt q.0 k) [
      | inl l ↦ absurd (c.loop-no.invariant q.0 y l q.1 u)
      | inr l ↦ omega (arith, i, j, l)
    ])

pub loop-no-preserved : goal.loop-no-preserved
loop-no-preserved c = λ j x l e u.
    let b = c.args.self.now in
    let ds = c.deref-no-items.result.now in
    let k = c.loop-no.no-index in
    let seen = c.deref-no-items.ensures.value in
    let low = c.loop-no-test.true in
    elim (cases_eq j k) [
      | inr n ↦ c.loop-no.invariant j x (omega (arith, l, n)) e u
      | inl s ↦ (let same : x ≡ get_or ds k 0 = same_Some x (get_or ds k 0) (sym e ∙ ap (slice_get b.t.items.items) s ∙ at_t b c.requires ds seen k low) in
          let v = subst (IsBeyond b.f.items.items b.g.places.items c.args.f_above c.args.g_above) same u in
          elim c.else-index-f_above.branch [
            | else-index-f_above-via-then-index-f_above+else-index-g_above w ↦ not_in_g b c.requires ds seen k low c.args.f_above c.args.g_above w.index-then-index-f_above.result.now
                w.index-then-index-f_above.ensures w.if-index-g_above.false v
            | else-index-f_above-via-else-index-f_above w ↦ not_in_f b c.requires ds seen k low c.args.f_above c.args.g_above c.index.result.now c.index.ensures w.if-index-f_above.false v
          ])
    ]

pub returns : goal.returns
returns c =
    let b = c.args.self.now in
    first_of_none b.t.places.items None _ (λ y u.
    let q = in_t b c.requires c.args.f_above c.args.g_above y u in
    let w = slice_get_within b.t.items.items q.0 y q.1 in
    let long = ap (λ (z : List ℕ). length z) c.deref-no-items.ensures.value in
    c.loop-no.invariant q.0 y (let t = c.loop-no-test.false in omega (arith, w, long, t)) q.1 u)
