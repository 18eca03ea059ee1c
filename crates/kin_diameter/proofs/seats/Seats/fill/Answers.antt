use Rattle.std.proofs.Common.{◌≡◌, sym, ap, ◌∙◌, subst, List, ◌^◌, length, map}
use Rattle.std.specs.Prelude.{Contains, Option}
use Rattle.kin_motion.specs.ClosestPairs.{Near}
use Rattle.kin_motion.specs.Tournaments.{item_in}
use Rattle.kin_tourney.specs.Tournament.{Tournament}
use Rattle.kin_pairs.specs.declared.farness.Farness.{Farness}
use Rattle.kin_diameter.specs.Changes.{DifferBetween}
use Rattle.kin_diameter.specs.Seats.{AreWithin, HoldCells, AreTold, AreSeated}
use Rattle.kin_diameter.specs.Seen.{seen}
use Rattle.kin_diameter.proofs.ListEnds.{between_turned, between_in}
use Rattle.kin_diameter.proofs.Seating.{slots_low, cells_within, written, seated_again}
use Rattle.kin_diameter.proofs.seats.Seats.fill.Goals as goal

pub list_cells-requires-clause-upper : goal.list_cells-requires-clause-upper
list_cells-requires-clause-upper c = slots_low _ c.args.upper.now c.requires.small c.requires.upper

pub list_cells-requires-clause-lower : goal.list_cells-requires-clause-lower
list_cells-requires-clause-lower c = slots_low _ c.args.lower.now c.requires.small c.requires.lower

pub lay_out-requires-clause-within : goal.lay_out-requires-clause-within
lay_out-requires-clause-within c =
    subst (λ n. AreWithin n c.deref.result.now) (sym (ap length c.deref_mut.ensures.value ∙ c.requires.seated.places_room))
    (cells_within _ c.args.upper.now c.args.lower.now (map seen c.args.breakpoints.now) c.deref.result.now c.requires.upper c.requires.lower c.requires.of_upper c.requires.of_lower (c.deref.ensures.value ∙ c.in_ok-list_cells.ensures))

pub tell_each-requires-clause-within : goal.tell_each-requires-clause-within
tell_each-requires-clause-within c = λ n h.
    c.requires.seated.within n (subst (λ (ns : List Near). Contains ns n) (c.deref-2.ensures.value ∙ ap (λ v. v.items) c.swap.ensures.y_after)
    (between_in c.deref-2.result.now c.deref-3.result.now c.between.result.0.now c.between.result.1.now c.between.ensures n h))

pub tell_each-requires-2-clause-within : goal.tell_each-requires-2-clause-within
tell_each-requires-2-clause-within c =
    let turned = between_turned c.deref-2.result.now c.deref-3.result.now c.between.result.0.now c.between.result.1.now c.between.ensures in
    subst (λ n. AreWithin (2 ^ n) c.between.result.1.now) (sym (ap (λ (t : Tournament Farness Near). t.size) c.tell_each.ensures.told.same))
    (λ n h. cells_within _ c.args.upper.now c.args.lower.now (map seen c.args.breakpoints.now) c.deref-3.result.now c.requires.upper c.requires.lower c.requires.of_upper c.requires.of_lower
    (c.deref-3.ensures.value ∙ c.in_ok-list_cells.ensures) n (between_in c.deref-3.result.now c.deref-2.result.now c.between.result.1.now c.between.result.0.now turned n h))

pub free_all-requires-clause-held : goal.free_all-requires-clause-held
free_all-requires-clause-held c =
    let room : length c.lay_out.new.places ≡ length c.args.self.now.places.items = c.lay_out.ensures.room ∙ ap length c.deref_mut.ensures.value in
    subst (λ (ns : List Near). HoldCells ns c.deref_mut-2.result.now) (c.deref.ensures.value ∙ sym c.deref-6.ensures.value)
    (subst (λ (xs : List (Option Near)). HoldCells c.deref.result.now xs) (sym (c.deref_mut-2.ensures.value ∙ written c.args.self.now.places.len c.lay_out.new.places c.args.self.now.places.items room c.args.self.now.places.ok.0)) c.lay_out.ensures.held)

pub free_all-requires-clause-within : goal.free_all-requires-clause-within
free_all-requires-clause-within c =
    let room : length c.lay_out.new.places ≡ length c.args.self.now.places.items = c.lay_out.ensures.room ∙ ap length c.deref_mut.ensures.value in
    let same : c.deref_mut-2.result.now ≡ c.lay_out.new.places = c.deref_mut-2.ensures.value ∙ written c.args.self.now.places.len c.lay_out.new.places c.args.self.now.places.items room c.args.self.now.places.ok.0 in
    subst (λ n. AreWithin n c.deref-6.result.now) (sym (ap length same ∙ room ∙ c.requires.seated.places_room))
    (cells_within _ c.args.upper.now c.args.lower.now (map seen c.args.breakpoints.now) c.deref-6.result.now c.requires.upper c.requires.lower c.requires.of_upper c.requires.of_lower (c.deref-6.ensures.value ∙ c.in_ok-list_cells.ensures))

pub returns-clause-seated : goal.returns-clause-seated
returns-clause-seated c =
    let t = c.args.self.now.tourney in
    let u = c.tell_each.new.tourney in
    let v = c.tell_each-2.new.tourney in
    let before = c.args.self.now.cells.items in
    let cells = c.list_cells.new.cells.items in
    let gone = c.between.result.0.now in
    let come = c.between.result.1.now in
    let places = c.lay_out.new.places in
    let room : length c.lay_out.new.places ≡ length c.args.self.now.places.items = c.lay_out.ensures.room ∙ ap length c.deref_mut.ensures.value in
    let same = written c.args.self.now.places.len places c.args.self.now.places.items room c.args.self.now.places.ok.0 in
    let freed : length c.free_all.new.places ≡ length c.deref_mut-2.result.now = c.free_all.ensures.room in
    let again = written c.args.self.now.places.len c.free_all.new.places _ (freed ∙ ap length c.deref_mut-2.ensures.value) (c.args.self.now.places.ok.0 ∙ sym room ∙ sym (ap length same)) in
    let differ : DifferBetween before cells gone come =
    subst (λ (ns : List Near). DifferBetween ns cells gone come) (c.deref-2.ensures.value ∙ ap (λ v. v.items) c.swap.ensures.y_after)
    (subst (λ (ns : List Near). DifferBetween c.deref-2.result.now ns gone come) c.deref-3.ensures.value c.between.ensures) in
    subst (λ (xs : List (Option Near)). AreSeated c.tell_each-2.new.tourney c.list_cells.new.cells.items xs) (sym again)
    (seated_again t u v before cells gone come c.args.self.now.places.items places c.free_all.new.places c.requires.seated
    (subst (λ (ns : List Near). HoldCells ns c.lay_out.new.places) c.deref.ensures.value c.lay_out.ensures.held)
    differ
    (subst (λ (xs : List (Option Near)). AreTold (item_in xs) c.args.self.now.tourney c.tell_each.new.tourney) (c.deref-4.ensures.value ∙ same) c.tell_each.ensures.told)
    (λ n h. c.tell_each.ensures.held n h ∙ ap (λ (xs : List (Option Near)). item_in xs n.slot) (c.deref-4.ensures.value ∙ same))
    (subst (λ (xs : List (Option Near)). AreTold (item_in xs) c.tell_each.new.tourney c.tell_each-2.new.tourney) (c.deref-5.ensures.value ∙ same) c.tell_each-2.ensures.told)
    (λ n h. c.tell_each-2.ensures.held n h ∙ ap (λ (xs : List (Option Near)). item_in xs n.slot) (c.deref-5.ensures.value ∙ same))
    (cells_within _ c.args.upper.now c.args.lower.now (map seen c.args.breakpoints.now) cells c.requires.upper c.requires.lower c.requires.of_upper c.requires.of_lower c.in_ok-list_cells.ensures)
    (freed ∙ ap length (c.deref_mut-2.ensures.value ∙ same) ∙ room ∙ c.requires.seated.places_room)
    c.free_all.ensures.free)
