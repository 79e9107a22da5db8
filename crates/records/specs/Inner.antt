-- What the private functions speak of: the record table's words as the code has them.
use Rattle.std.specs.Prelude.{ℕ, zero, suc, Bool, false, ◌&&◌, Option, Some, None, eqb}
use Rattle.records.specs.declared.Form.{Form}
use Rattle.records.specs.declared.Form.TheVariants.{NoData, BitArray, TwoByte, FourByte, EightByteReal, AsciiText}
use Rattle.records.specs.declared.Length.{Length}
use Rattle.records.specs.declared.Length.TheVariants.{Exactly, Units}
use Rattle.records.specs.declared.Data.{Data}
use Rattle.records.specs.Format.{Length as Lengths, exactly, units, fits_length, no_data, bit_array, two_byte, four_byte, eight_byte_real, ascii_text}

-- the data-type byte
abbrev pub byte_of : Form → ℕ
byte_of NoData = no_data
byte_of BitArray = bit_array
byte_of TwoByte = two_byte
byte_of FourByte = four_byte
byte_of EightByteReal = eight_byte_real
byte_of AsciiText = ascii_text

-- the lengths
abbrev pub length_of : Length → Lengths
length_of (Exactly n) = exactly n
length_of (Units u m) = units u m

-- a record with a data-type byte and so many bytes of data is one that a type with this data can have; one of no type can have none
abbrev pub fits_data : Option Data → (b n : ℕ) → Bool
fits_data None b n = false
fits_data (Some d) b n = eqb (byte_of d.0) b && fits_length (length_of d.1) n

-- the row that the order leads to, where row 0 is none
abbrev pub row_of : ℕ → Option ℕ
row_of zero = None
row_of (suc n) = Some (suc n)
