-- Worked numbers, computed.
use Rattle.std.proofs.Common.{◌≡◌, refl, Some, None, codes}
use Rattle.wgsl_choices.specs.Numbers.{width_of, size_of}

pub the_least_width : width_of (codes "0") ≡ Some 0
the_least_width = refl

pub the_largest_width : width_of (codes "9999") ≡ Some 9999
the_largest_width = refl

pub a_larger_width : width_of (codes "10000") ≡ None
a_larger_width = refl

pub zeros_before : width_of (codes "00080") ≡ Some 80
zeros_before = refl

pub no_digit : width_of (codes "") ≡ None
no_digit = refl

pub a_sign : width_of (codes "+80") ≡ None
a_sign = refl

pub a_letter : width_of (codes "8O") ≡ None
a_letter = refl

pub the_least_size : size_of (codes "1") ≡ Some 1
the_least_size = refl

pub no_size : size_of (codes "0") ≡ None
no_size = refl

pub the_largest_size : size_of (codes "16") ≡ Some 16
the_largest_size = refl

pub a_larger_size : size_of (codes "17") ≡ None
a_larger_size = refl
