-- What is true of every kinetic list.
use Rattle.kin_sorted.specs.declared.direction.Direction.{Direction}
use Rattle.kin_sorted.specs.declared.single.Single.{Single}
use Rattle.kin_sorted.specs.declared.single.Single.TheVariants as single
use Rattle.kin_sorted.specs.Sorting.{Sorting, IsAtRest, MayPass}
use Rattle.kin_list.specs.declared.mark.Mark.{Mark}
use Rattle.kin_list.specs.declared.mark.Mark.TheVariants.{Rest, Enters, Leaves, Broken}

-- the item of the mark
abbrev pub single_of : Mark → Single
single_of Rest = single.Neither
single_of (Enters i) = single.Enters i
single_of (Leaves i) = single.Leaves i
single_of Broken = single.Neither

-- no mark waits in the sorted list, and the number of the list's own mark may enter or leave it
pub record IsMarkable (mark : Mark) (k : Sorting Direction) : Type 0 where
  pub rest : IsAtRest k
  pub may : MayPass (single_of mark) k.rank.slots k.items

-- but for a list of which a settle was cut off it may be marked as it is
abbrev pub IsSound : Mark → Sorting Direction → Type 0
IsSound Rest k = IsMarkable Rest k
IsSound (Enters i) k = IsMarkable (Enters i) k
IsSound (Leaves i) k = IsMarkable (Leaves i) k
IsSound Broken k = Unit {0}
