-- How a few elements are kept: one in place, or any in a list.
use Rattle.std.specs.Prelude.{◌≡◌, ◌<◌, ◌^◌, List, length}
use Rattle.ckpt_types.specs.declared.elements.Items.{Items}
use Rattle.ckpt_types.specs.declared.elements.Items.TheVariants.{One, Many}

-- the elements that are kept, in their order
abbrev pub elements_in : {T : Type 0} → Items T → List T
elements_in (One element) = element
elements_in (Many items) = items.items

-- one in place, or fewer than 2^32 in a list
abbrev pub AreFew : {T : Type 0} → Items T → Type 0
AreFew (One element) = length element ≡ 1
AreFew (Many items) = length items.items < 2 ^ 32
