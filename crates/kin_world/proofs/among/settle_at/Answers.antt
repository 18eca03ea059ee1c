use Rattle.std.proofs.Common.{◌≡◌, subst, List, slice_index_or, slice_get, Some}
use Rattle.kin_world.specs.Structures.{MaySettle}
use Rattle.kin_world.specs.declared.structure.Structure.{Structure}
use Rattle.kin_world.proofs.Splits.{from_six, split_read, split_set, split_take}
use Rattle.kin_world.proofs.among.settle_at.Goals as goal

-- what is at the place
here : (g : _) (c : goal.After-settle-arg-2-1 g) → slice_get c.args.structures.now c.args.place ≡ Some c.index-rest-0.result
here g c =
    let split = c.split_at_mut-before in
    split_read c.args.structures.now split.result.0.now split.result.1.now c.args.place split.ensures.value split.ensures.front_len c.index-rest-0.result c.requires.within c.index-rest-0.is

-- it may settle
may : (g : _) (c : goal.After-settle-arg-2-1 g)
    → MaySettle (g.O.Signs.scene c.args.now.now) c.split_at_mut-before.result.0.now (slice_index_or c.split_at_mut-before.result.1.now 0 c.index-rest-0.result) c.args.failed.now
may g c =
    let split = c.split_at_mut-before in
    let before = split_take c.args.structures.now split.result.0.now split.result.1.now c.args.place split.ensures.value split.ensures.front_len in
    subst (λ (st : Structure). MaySettle (g.O.Signs.scene c.args.now.now) split.result.0.now st c.args.failed.now) c.index-rest-0.is
    (subst (λ (xs : List Structure). MaySettle (g.O.Signs.scene c.args.now.now) xs c.index-rest-0.result c.args.failed.now) before (c.requires.may c.index-rest-0.result (here g c)))

pub settle-requires-clause-was : goal.settle-requires-clause-was
settle-requires-clause-was g c = (may g c).was

pub settle-requires-clause-needs : goal.settle-requires-clause-needs
settle-requires-clause-needs g c = (may g c).needs

pub settle-requires-clause-failing : goal.settle-requires-clause-failing
settle-requires-clause-failing g c = (may g c).failing

pub returns : goal.returns
returns g c =
    let split = c.split_at_mut-before in
    let e = c.settle.ensures in
    let st = slice_index_or split.result.1.now 0 c.index-rest-0.result in
    from_six c.settle.result
    (λ kind rest members settled delta within. record {
      was = st;
      here = subst (λ (x : Structure). slice_get c.args.structures.now c.args.place ≡ Some x) c.index-rest-0.is
          (split_read c.args.structures.now split.result.0.now split.result.1.now c.args.place split.ensures.value split.ensures.front_len c.index-rest-0.result c.requires.within c.index-rest-0.is);
      after = c.settle.new.self;
      written = split_set c.args.structures.now split.result.0.now split.result.1.now c.args.place split.ensures.value split.ensures.front_len c.settle.new.self;
      become = record { kind = kind; rest = rest; members = members; settled = settled; delta = delta; within = λ size keep v is step was there same. within size keep v is step was same };
    })
    e.kind e.rest e.members e.settled e.delta e.within
