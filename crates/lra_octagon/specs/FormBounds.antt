-- What an octagon says of the least and the greatest value of a form. A form with one coefficient of 1 or -1, or with
-- two, goes by the entry that bounds it, with one coefficient by half of it; every other goes by the unary bounds, as
-- over boxes. An infinite entry says nothing, nor does a number that passes the range.
use Rattle.std.specs.Option.{option_map}
use Rattle.std.specs.Prelude.{◌≡◌, ℕ, zero, suc, ℤ, neg_ℤ, Option, None, Some}
use Rattle.lra_octagon.specs.Crates.lra_linear_forms.Form.{Form}
use Rattle.lra_dbm.specs.{Cells.Cells, Cells.entries, Entry.◌⊞◌, Entry.within_range, Tight.Entries, Tight.opposite}
use Rattle.lra_box.specs.{Ends.IsEnd, declared.interval.Side.TheVariants.Low, declared.interval.Side.TheVariants.High}
use Rattle.lra_octagon.specs.declared.forms.FormShape.TheVariants.{Constant, One, Two, Other}
use Rattle.lra_octagon.specs.{Forms.shape, Tables.intervals, Tables.most, declared.forms.FormShape.FormShape}

-- the constant and a bound; the constant less a bound
abbrev pub above_by : ℤ → Option ℤ → Option ℤ
above_by c o = within_range (Some c ⊞ o)

abbrev pub below_by : ℤ → Option ℤ → Option ℤ
below_by c o = within_range (Some c ⊞ option_map neg_ℤ o)

-- by the unary bounds
abbrev pub UnaryTell : ℕ → Entries → Form → Option ℤ → Option ℤ → Type 0
UnaryTell n m f l h = IsEnd Low f (intervals n m) l × IsEnd High f (intervals n m) h

-- by the form's shape: of c + v_i and of c + v_i + v_j by the entries that bound v_i, v_i + v_j and their opposites
abbrev pub ShapeTells : ℕ → Entries → Form → FormShape → Option ℤ → Option ℤ → Type 0
ShapeTells n m f Constant l h = UnaryTell n m f l h
ShapeTells n m f (One zero i) l h = UnaryTell n m f l h
ShapeTells n m f (One (suc zero) i) l h =
    (l ≡ below_by f.constant (most m (opposite i))) × (h ≡ above_by f.constant (most m i))
ShapeTells n m f (One (suc (suc k)) i) l h = UnaryTell n m f l h
ShapeTells n m f (Two zero i j) l h = UnaryTell n m f l h
ShapeTells n m f (Two (suc zero) i j) l h =
    (l ≡ below_by f.constant (m j (opposite i))) × (h ≡ above_by f.constant (m (opposite j) i))
ShapeTells n m f (Two (suc (suc k)) i j) l h = UnaryTell n m f l h
ShapeTells n m f Other l h = UnaryTell n m f l h

-- an empty octagon says nothing
abbrev pub CellsTell : ℕ → Option Cells → Form → Option ℤ → Option ℤ → Type 0
CellsTell n None f l h = (l ≡ None) × (h ≡ None)
CellsTell n (Some cells) f l h = ShapeTells n (entries n cells) f (shape f) l h
