use Rattle.std.proofs.Common.{◌≡◌, subst, List, slice_index_or, slice_get, Some}
use Rattle.kin_world.specs.Structures.{MayCarryOut}
use Rattle.kin_world.specs.declared.structure.Structure.{Structure}
use Rattle.kin_world.proofs.Splits.{from_six, split_read, split_set, split_take}
use Rattle.kin_world.proofs.among.carry_out_at.Goals as goal

-- what is at the place
here : (g : _) (c : goal.After-carry_out-arg-2-1 g) → slice_get c.args.structures.now c.args.place ≡ Some c.index-rest-0.result
here g c =
    let split = c.split_at_mut-before in
    split_read c.args.structures.now split.result.0.now split.result.1.now c.args.place split.ensures.value split.ensures.front_len c.index-rest-0.result c.requires.within c.index-rest-0.is

-- it may carry the mark out
may : (g : _) (c : goal.After-carry_out-arg-2-1 g)
    → MayCarryOut c.args.mark (g.O.Signs.scene c.args.now.now) c.split_at_mut-before.result.0.now (slice_index_or c.split_at_mut-before.result.1.now 0 c.index-rest-0.result)
may g c =
    let split = c.split_at_mut-before in
    let before = split_take c.args.structures.now split.result.0.now split.result.1.now c.args.place split.ensures.value split.ensures.front_len in
    subst (λ (st : Structure). MayCarryOut c.args.mark (g.O.Signs.scene c.args.now.now) split.result.0.now st) c.index-rest-0.is
    (subst (λ (xs : List Structure). MayCarryOut c.args.mark (g.O.Signs.scene c.args.now.now) xs c.index-rest-0.result) before (c.requires.may c.index-rest-0.result (here g c)))

pub carry_out-requires-clause-room : goal.carry_out-requires-clause-room
carry_out-requires-clause-room g c = (may g c).room

pub carry_out-requires-clause-marked : goal.carry_out-requires-clause-marked
carry_out-requires-clause-marked g c = (may g c).was

pub carry_out-requires-clause-needs : goal.carry_out-requires-clause-needs
carry_out-requires-clause-needs g c = (may g c).needs

pub carry_out-requires-clause-hold : goal.carry_out-requires-clause-hold
carry_out-requires-clause-hold g c = (may g c).hold

pub returns : goal.returns
returns g c =
    let split = c.split_at_mut-before in
    let e = c.carry_out.ensures in
    let st = slice_index_or split.result.1.now 0 c.index-rest-0.result in
    from_six c.carry_out.result
    (λ kind rest members settled delta within. record {
      was = st;
      here = subst (λ (x : Structure). slice_get c.args.structures.now c.args.place ≡ Some x) c.index-rest-0.is
          (split_read c.args.structures.now split.result.0.now split.result.1.now c.args.place split.ensures.value split.ensures.front_len c.index-rest-0.result c.requires.within c.index-rest-0.is);
      after = c.carry_out.new.self;
      written = split_set c.args.structures.now split.result.0.now split.result.1.now c.args.place split.ensures.value split.ensures.front_len c.carry_out.new.self;
      become = record { kind = kind; rest = rest; members = members; settled = settled; delta = delta; within = within };
    })
    e.kind e.rest e.members e.settled e.delta e.within
