-- A report's JSON has no float.
use Rattle.std.proofs.Common.{◌≡◌, ℕ, List, [], ◌∷◌, map, fold, Bool, true, false, codes, if◌then◌else◌, nat_cmp, Ordering, Less, Equal, Greater, refl, Option, Some, None, ap, ◌∙◌}
use Rattle.std.proofs.lemmas.Bool.{or_parts}
use Rattle.std.specs.{Cmp.Lexicographic.slice_cmp, List.list_any, Ordering.match_ordering}
use Rattle.serde_json.specs.Data.{Data, Members, boolean, string, object, member, no_members, put}
use Rattle.serde_json.specs.{View.items_of, Written.has_float, Written.items_have_float, Written.members_have_float, Written.compact_text}
use Rattle.lra_options.specs.OptionRows.{number_row, number_value, number_options, is_number_reported, flag_row, flag_value, flag_options, is_reported}
use Rattle.lra_options.specs.declared.options.Domain.TheVariants.{Poly, Box, Oct}
use Rattle.lra_options.specs.{declared.options.Domain.Domain, declared.options.FlagOption.FlagOption, declared.options.NumberOption.NumberOption, declared.options.Options.Options}
use Rattle.lra_report.specs.{Report.PointReport, Report.Verdict, Report.Report, ReportText.place_text, VerdictKinds.row_of, VerdictKinds.kinds, declared.verdict_kinds.VerdictKind.VerdictKind}
use Rattle.lra_row_text.specs.Part.{Part}
use Rattle.lra_report_json.specs.ReportJson.{natural, list_of, with_number, with_flag, domain_alone, options_data, outcome_members, verdict_data, is_under, under, with_verdicts, flag_data, part_data}
use Rattle.lra_report_json.specs.ReportJson.{point_data, fixed_members, report_data}

list_without_floats : {A : Type 0} (write : A → Data) → ((x : A) → has_float (write x) ≡ false) → (xs : List A) → items_have_float (items_of (map write xs)) ≡ false
list_without_floats write none [] = refl
list_without_floats write none (x ∷ xs) = rw (none x) (list_without_floats write none xs)

part_without_floats : (domain : Domain) (names : List (List ℕ)) (part : Part) → has_float (part_data domain names part) ≡ false
part_without_floats Poly names part =
    rw (list_without_floats _ (λ g. refl) part.generators, list_without_floats _ (λ r. refl) part.rows) refl
part_without_floats Box names part = rw (list_without_floats _ (λ r. refl) part.rows) refl
part_without_floats Oct names part = rw (list_without_floats _ (λ r. refl) part.rows) refl

point_without_floats : (domain : Domain) (p : PointReport) → has_float (point_data domain p) ≡ false
point_without_floats domain p = rw (list_without_floats (part_data domain p.names) (part_without_floats domain p.names) p.state) refl

flag_without_floats : (f : Option ℕ) → has_float (flag_data f) ≡ false
flag_without_floats None = refl
flag_without_floats (Some n) = refl

put_without_floats : (k : List ℕ) (d : Data) (so : Members) → has_float d ≡ false → members_have_float so ≡ false → members_have_float (put k d so) ≡ false
put_without_floats k d no_members none before = rw none refl
put_without_floats k d (member l e more) none before =
    let both = or_parts (has_float e) (members_have_float more) before in
    go (slice_cmp nat_cmp k l) both (put_without_floats k d more none both.1)
  where
    go : (o : Ordering) → (has_float e ≡ false) × (members_have_float more ≡ false) → members_have_float (put k d more) ≡ false
        → members_have_float (match_ordering o (member k d (member l e more)) (member l d more) (member l e (put k d more))) ≡ false
    go Less both later = rw (none, both.0, both.1) refl
    go Equal both later = rw (none, both.1) refl
    go Greater both later = rw (both.0, later) refl

numbers_without_floats : (o : Options) (so : Members) (options : List NumberOption) → members_have_float so ≡ false →
    members_have_float (fold (with_number o) so options) ≡ false
numbers_without_floats o so [] before = before
numbers_without_floats o so (option ∷ more) before = numbers_without_floats o (with_number o so option) more (go (is_number_reported option o))
  where
    go : (told : Bool) → members_have_float (if told then put (number_row option).name (natural (number_value option o)) so else so) ≡ false
    go true = put_without_floats (number_row option).name (natural (number_value option o)) so refl before
    go false = before

flags_without_floats : (o : Options) (so : Members) (options : List FlagOption) → members_have_float so ≡ false →
    members_have_float (fold (with_flag o) so options) ≡ false
flags_without_floats o so [] before = before
flags_without_floats o so (option ∷ more) before = flags_without_floats o (with_flag o so option) more (go (is_reported option o))
  where
    go : (told : Bool) → members_have_float (if told then put (flag_row option).name (boolean (flag_value option o)) so else so) ≡ false
    go true = put_without_floats (flag_row option).name (boolean (flag_value option o)) so refl before
    go false = before

options_without_floats : (o : Options) → has_float (options_data o) ≡ false
options_without_floats o = flags_without_floats o (fold (with_number o) (domain_alone o) number_options) flag_options
    (numbers_without_floats o (domain_alone o) number_options refl)

verdict_without_floats : (v : Verdict) → has_float (verdict_data v) ≡ false
verdict_without_floats v = go (row_of v.kind).own_place
  where
    go : (own : Bool) → has_float (object (if own then member (codes "place") (string (place_text v.place)) (outcome_members v) else outcome_members v)) ≡ false
    go true = refl
    go false = refl

verdicts_without_floats : (r : Report) (so : Members) (ks : List VerdictKind) → members_have_float so ≡ false →
    members_have_float (fold (with_verdicts r) so ks) ≡ false
verdicts_without_floats r so [] before = before
verdicts_without_floats r so (kind ∷ more) before =
    verdicts_without_floats r (with_verdicts r so kind) more (go ((row_of kind).stands r.options (list_any (is_under (row_of kind).key) r.verdicts)))
  where
    listed : Data
    listed = list_of verdict_data (under (row_of kind).key r.verdicts)

    go : (stands : Bool) → members_have_float (if stands then put (row_of kind).key listed so else so) ≡ false
    go true = put_without_floats (row_of kind).key listed so
        (list_without_floats verdict_data verdict_without_floats (under (row_of kind).key r.verdicts)) before
    go false = before

report_without_floats : (r : Report) → has_float (report_data r) ≡ false
report_without_floats r = verdicts_without_floats r (fixed_members r) kinds
    (rw (
      options_without_floats r.options,
      flag_without_floats r.flagged,
      list_without_floats (point_data r.options.domain)
          (point_without_floats r.options.domain) r.points,
    ) refl)

pub written_without_floats : (r : Report) (d : Data) (bytes : List ℕ) → d ≡ report_data r → (has_float d ≡ false → bytes ≡ compact_text d) → bytes ≡ compact_text (report_data r)
written_without_floats r d bytes same written = written (ap has_float same ∙ report_without_floats r) ∙ ap compact_text same
