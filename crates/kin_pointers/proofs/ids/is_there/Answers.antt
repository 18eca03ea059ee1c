use Rattle.std.proofs.Common.{◌≡◌, ℕ, Some, nat_eq, eqb-true, true, sym, subst, refl, ap, ◌∙◌, arith}
use Rattle.std.specs.Prelude.{slice_get}
use Rattle.std.proofs.lemmas.Cmp.{nat_eq_equiv}
use Rattle.kin_algebra.proofs.Members.{contains_from_get}
use Rattle.kin_pointers.proofs.Held.{get_at}
use Rattle.kin_pointers.proofs.IdLaws.{place-is, place_there}
use Rattle.kin_pointers.proofs.ids.is_there.Goals as goal

pub returns-in_default : goal.returns-in_default
returns-in_default c = (
  (λ no. absurd cc),
  (λ there.
      let low = c.requires.room c.args.id there in
      absurd (grind (arith, low, c.in_default.ensures.lookup.3))),
)

pub returns-in-Some-get : goal.returns-in-Some-get
returns-in-Some-get c =
    let ids = c.args.ids.now in
    let places = c.args.places.now in
    let id = c.args.id in
    let place : slice_get places id ≡ Some c.in-Some.place.now = get_at places id c.in-Some.place.now c.in-Some.place.now c.in-Some.ensures.lookup.3.0 c.in-Some.ensures.lookup.1 refl in
    let found : slice_get ids c.in-Some.place.now ≡ Some c.in-Some-get.found.now = get_at ids c.in-Some.place.now c.in-Some-get.found.now c.in-Some-get.found.now c.in-Some-get.ensures.lookup.3.0 c.in-Some-get.ensures.lookup.1 refl in (
      (λ same. contains_from_get ids c.in-Some.place.now id (found ∙ ap (λ (x : ℕ). Some x) (eqb-true c.in-Some-get.found.now id same))),
      (λ there.
          let same : Some c.in-Some-get.found.now ≡ Some id = sym found ∙ place-is ids places c.requires.placed id c.in-Some.place.now place there in
          let e : c.in-Some-get.found.now ≡ id = cc in
          subst (λ (x : ℕ). nat_eq x id ≡ true) (sym e) (nat_eq_equiv.refl id)),
    )

pub returns-in-None : goal.returns-in-None
returns-in-None c =
    let places = c.args.places.now in
    let place : slice_get places c.args.id ≡ Some c.in-Some.place.now = get_at places c.args.id c.in-Some.place.now c.in-Some.place.now c.in-Some.ensures.lookup.3.0 c.in-Some.ensures.lookup.1 refl in (
      (λ no. absurd cc),
      (λ there.
          let low = place_there c.args.ids.now places c.requires.placed c.args.id c.in-Some.place.now there place in
          absurd (grind (arith, low, c.in-None.ensures.lookup.3))),
    )
