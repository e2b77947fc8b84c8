-- Which codes are white space.
use Rattle.std.specs.Prelude.{ℕ, Bool, ◌&&◌, ◌||◌, ◌==◌, nat_le}

abbrev pub within : (low high c : ℕ) → Bool
within low high c = nat_le low c && nat_le c high

abbrev pub white : ℕ → Bool
white c =
    within 0x09 0x0D c || c == 0x20 || c == 0x85 || c == 0xA0 || c == 0x1680 || within 0x2000 0x200A c || c == 0x2028 || c == 0x2029 || c == 0x202F || c == 0x205F || c == 0x3000
