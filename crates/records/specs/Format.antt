-- The record types of the GDSII stream format, the data that each can have, and the order in which records come.
use Rattle.std.specs.Prelude.{ℕ, ◌%◌, Bool, false, cond, ◌&&◌, List, [], ◌∷◌, eqb, leb}

-- ---- Record types

abbrev pub HEADER : ℕ
HEADER = 0

abbrev pub BGNLIB : ℕ
BGNLIB = 1

abbrev pub LIBNAME : ℕ
LIBNAME = 2

abbrev pub UNITS : ℕ
UNITS = 3

abbrev pub ENDLIB : ℕ
ENDLIB = 4

abbrev pub BGNSTR : ℕ
BGNSTR = 5

abbrev pub STRNAME : ℕ
STRNAME = 6

abbrev pub ENDSTR : ℕ
ENDSTR = 7

abbrev pub BOUNDARY : ℕ
BOUNDARY = 8

abbrev pub PATH : ℕ
PATH = 9

abbrev pub SREF : ℕ
SREF = 10

abbrev pub AREF : ℕ
AREF = 11

abbrev pub TEXT : ℕ
TEXT = 12

abbrev pub LAYER : ℕ
LAYER = 13

abbrev pub DATATYPE : ℕ
DATATYPE = 14

abbrev pub WIDTH : ℕ
WIDTH = 15

abbrev pub XY : ℕ
XY = 16

abbrev pub ENDEL : ℕ
ENDEL = 17

abbrev pub SNAME : ℕ
SNAME = 18

abbrev pub COLROW : ℕ
COLROW = 19

abbrev pub NODE : ℕ
NODE = 21

abbrev pub TEXTTYPE : ℕ
TEXTTYPE = 22

abbrev pub PRESENTATION : ℕ
PRESENTATION = 23

abbrev pub STRING : ℕ
STRING = 25

abbrev pub STRANS : ℕ
STRANS = 26

abbrev pub MAG : ℕ
MAG = 27

abbrev pub ANGLE : ℕ
ANGLE = 28

abbrev pub REFLIBS : ℕ
REFLIBS = 31

abbrev pub FONTS : ℕ
FONTS = 32

abbrev pub PATHTYPE : ℕ
PATHTYPE = 33

abbrev pub GENERATIONS : ℕ
GENERATIONS = 34

abbrev pub ATTRTABLE : ℕ
ATTRTABLE = 35

abbrev pub ELFLAGS : ℕ
ELFLAGS = 38

abbrev pub NODETYPE : ℕ
NODETYPE = 42

abbrev pub PROPATTR : ℕ
PROPATTR = 43

abbrev pub PROPVALUE : ℕ
PROPVALUE = 44

abbrev pub BOX : ℕ
BOX = 45

abbrev pub BOXTYPE : ℕ
BOXTYPE = 46

abbrev pub PLEX : ℕ
PLEX = 47

abbrev pub BGNEXTN : ℕ
BGNEXTN = 48

abbrev pub ENDEXTN : ℕ
ENDEXTN = 49

abbrev pub STRCLASS : ℕ
STRCLASS = 52

abbrev pub FORMAT : ℕ
FORMAT = 54

abbrev pub MASK : ℕ
MASK = 55

abbrev pub ENDMASKS : ℕ
ENDMASKS = 56

abbrev pub LIBDIRSIZE : ℕ
LIBDIRSIZE = 57

abbrev pub SRFNAME : ℕ
SRFNAME = 58

abbrev pub LIBSECUR : ℕ
LIBSECUR = 59

-- ---- The record table: for each type its data-type byte and the lengths that its data can have. A string may have any length; that a record's
-- length is even is asked of every record

-- the data-type bytes: no data, an array of bits, signed numbers of two and of four bytes, reals of eight, a string
abbrev pub no_data : ℕ
no_data = 0

abbrev pub bit_array : ℕ
bit_array = 1

abbrev pub two_byte : ℕ
two_byte = 2

abbrev pub four_byte : ℕ
four_byte = 3

abbrev pub eight_byte_real : ℕ
eight_byte_real = 5

abbrev pub ascii_text : ℕ
ascii_text = 6

-- how many bytes of data: exactly so many; or any number of units of so many bytes, at least so many bytes
pub data Length : Type 0 where
  exactly : ℕ → Length
  units : (bytes least : ℕ) → Length

-- so many bytes are such a length
unfoldable pub fits_length : Length → ℕ → Bool
fits_length (exactly m) n = eqb n m
fits_length (units u m) n = leb m n && eqb (n % u) 0

-- a row of the table
pub record Kind : Type 0 where
  pub type : ℕ
  pub data-type : ℕ
  pub length : Length

-- the row of a type, with its data-type byte and its lengths
abbrev pub kind : ℕ → ℕ → Length → Kind
kind t d l = record { type = t; data-type = d; length = l }

-- the types of the format by their numbers
unfoldable pub table : List Kind
table =
    kind HEADER two_byte (exactly 2)
    ∷ kind BGNLIB two_byte (exactly 24)
    ∷ kind LIBNAME ascii_text (units 1 0)
    ∷ kind UNITS eight_byte_real (exactly 16)
    ∷ kind ENDLIB no_data (exactly 0)
    ∷ kind BGNSTR two_byte (exactly 24)
    ∷ kind STRNAME ascii_text (units 1 0)
    ∷ kind ENDSTR no_data (exactly 0)
    ∷ kind BOUNDARY no_data (exactly 0)
    ∷ kind PATH no_data (exactly 0)
    ∷ kind SREF no_data (exactly 0)
    ∷ kind AREF no_data (exactly 0)
    ∷ kind TEXT no_data (exactly 0)
    ∷ kind LAYER two_byte (exactly 2)
    ∷ kind DATATYPE two_byte (exactly 2)
    ∷ kind WIDTH four_byte (exactly 4)
    ∷ kind XY four_byte (units 8 0)
    ∷ kind ENDEL no_data (exactly 0)
    ∷ kind SNAME ascii_text (units 1 0)
    ∷ kind COLROW two_byte (exactly 4)
    ∷ kind NODE no_data (exactly 0)
    ∷ kind TEXTTYPE two_byte (exactly 2)
    ∷ kind PRESENTATION bit_array (exactly 2)
    ∷ kind STRING ascii_text (units 1 0)
    ∷ kind STRANS bit_array (exactly 2)
    ∷ kind MAG eight_byte_real (exactly 8)
    ∷ kind ANGLE eight_byte_real (exactly 8)
    ∷ kind REFLIBS ascii_text (units 1 0)
    ∷ kind FONTS ascii_text (units 1 0)
    ∷ kind PATHTYPE two_byte (exactly 2)
    ∷ kind GENERATIONS two_byte (exactly 2)
    ∷ kind ATTRTABLE ascii_text (units 1 0)
    ∷ kind ELFLAGS bit_array (exactly 2)
    ∷ kind NODETYPE two_byte (exactly 2)
    ∷ kind PROPATTR two_byte (exactly 2)
    ∷ kind PROPVALUE ascii_text (units 1 0)
    ∷ kind BOX no_data (exactly 0)
    ∷ kind BOXTYPE two_byte (exactly 2)
    ∷ kind PLEX four_byte (exactly 4)
    ∷ kind BGNEXTN four_byte (exactly 4)
    ∷ kind ENDEXTN four_byte (exactly 4)
    ∷ kind STRCLASS bit_array (exactly 2)
    ∷ kind FORMAT two_byte (exactly 2)
    ∷ kind MASK ascii_text (units 1 0)
    ∷ kind ENDMASKS no_data (exactly 0)
    ∷ kind LIBDIRSIZE two_byte (exactly 2)
    ∷ kind SRFNAME ascii_text (units 1 0)
    ∷ kind LIBSECUR two_byte (units 6 6)
    ∷ []

-- a record of a type, with a data-type byte and so many bytes of data, is one that the type can have; a type that is not in the table can have none
unfoldable pub fits_in : List Kind → (t d n : ℕ) → Bool
fits_in [] t d n = false
fits_in (k ∷ ks) t d n =
    let past : Bool = fits_in ks t d n in
    cond (eqb k.type t) (eqb k.data-type d && fits_length k.length n) past

-- by the whole table
unfoldable pub fits : (t d n : ℕ) → Bool
fits t d n = fits_in table t d n

-- ---- The order. At row `at` a record of the row's type leads to row `next`; another one is tried at row `skip`, further down, and refused where skip
-- is 0. So a row with skip 0 is a record that must come, and the others stand in the brackets of the format's grammar.

-- a row of the order
pub record Row : Type 0 where
  pub at : ℕ
  pub type : ℕ
  pub next : ℕ
  pub skip : ℕ

-- the row of a number: its type, the row after it, and where another type is tried
abbrev pub row : ℕ → ℕ → ℕ → ℕ → Row
row a t n s = record { at = a; type = t; next = n; skip = s }

-- the order: a library, its structures, their elements of each kind, and their properties
unfoldable pub order : List Row
order =
    row 1 HEADER 2 0
    ∷ row 2 BGNLIB 3 0
    ∷ row 3 LIBDIRSIZE 4 4
    ∷ row 4 SRFNAME 5 5
    ∷ row 5 LIBSECUR 6 6
    ∷ row 6 LIBNAME 7 0
    ∷ row 7 REFLIBS 8 8
    ∷ row 8 FONTS 9 9
    ∷ row 9 ATTRTABLE 10 10
    ∷ row 10 GENERATIONS 11 11
    ∷ row 11 FORMAT 12 15
    ∷ row 12 MASK 13 15
    ∷ row 13 MASK 13 14
    ∷ row 14 ENDMASKS 15 0
    ∷ row 15 UNITS 16 0
    ∷ row 16 BGNSTR 18 17
    ∷ row 17 ENDLIB 17 0
    ∷ row 18 STRNAME 19 0
    ∷ row 19 STRCLASS 20 20
    ∷ row 20 BOUNDARY 28 21
    ∷ row 21 PATH 33 22
    ∷ row 22 SREF 42 23
    ∷ row 23 AREF 49 24
    ∷ row 24 TEXT 57 25
    ∷ row 25 NODE 69 26
    ∷ row 26 BOX 74 27
    ∷ row 27 ENDSTR 16 0
    ∷ row 28 ELFLAGS 29 29
    ∷ row 29 PLEX 30 30
    ∷ row 30 LAYER 31 0
    ∷ row 31 DATATYPE 32 0
    ∷ row 32 XY 79 0
    ∷ row 33 ELFLAGS 34 34
    ∷ row 34 PLEX 35 35
    ∷ row 35 LAYER 36 0
    ∷ row 36 DATATYPE 37 0
    ∷ row 37 PATHTYPE 38 38
    ∷ row 38 WIDTH 39 39
    ∷ row 39 BGNEXTN 40 40
    ∷ row 40 ENDEXTN 41 41
    ∷ row 41 XY 79 0
    ∷ row 42 ELFLAGS 43 43
    ∷ row 43 PLEX 44 44
    ∷ row 44 SNAME 45 0
    ∷ row 45 STRANS 46 48
    ∷ row 46 MAG 47 47
    ∷ row 47 ANGLE 48 48
    ∷ row 48 XY 79 0
    ∷ row 49 ELFLAGS 50 50
    ∷ row 50 PLEX 51 51
    ∷ row 51 SNAME 52 0
    ∷ row 52 STRANS 53 55
    ∷ row 53 MAG 54 54
    ∷ row 54 ANGLE 55 55
    ∷ row 55 COLROW 56 0
    ∷ row 56 XY 79 0
    ∷ row 57 ELFLAGS 58 58
    ∷ row 58 PLEX 59 59
    ∷ row 59 LAYER 60 0
    ∷ row 60 TEXTTYPE 61 0
    ∷ row 61 PRESENTATION 62 62
    ∷ row 62 PATHTYPE 63 63
    ∷ row 63 WIDTH 64 64
    ∷ row 64 STRANS 65 67
    ∷ row 65 MAG 66 66
    ∷ row 66 ANGLE 67 67
    ∷ row 67 XY 68 0
    ∷ row 68 STRING 79 0
    ∷ row 69 ELFLAGS 70 70
    ∷ row 70 PLEX 71 71
    ∷ row 71 LAYER 72 0
    ∷ row 72 NODETYPE 73 0
    ∷ row 73 XY 79 0
    ∷ row 74 ELFLAGS 75 75
    ∷ row 75 PLEX 76 76
    ∷ row 76 LAYER 77 0
    ∷ row 77 BOXTYPE 78 0
    ∷ row 78 XY 79 0
    ∷ row 79 PROPATTR 80 81
    ∷ row 80 PROPVALUE 79 0
    ∷ row 81 ENDEL 20 0
    ∷ []

-- the row after a record of a type that comes at a row; 0, where it must not come there
unfoldable pub follow_in : List Row → (at t : ℕ) → ℕ
follow_in [] at t = 0
follow_in (r ∷ rs) at t =
    let past : ℕ = follow_in rs at t in
    let down : ℕ = follow_in rs r.skip t in
    let here : ℕ = cond (eqb r.type t) r.next down in
    cond (eqb r.at at) here past

-- by the whole order
unfoldable pub follow : (at t : ℕ) → ℕ
follow at t = follow_in order at t
