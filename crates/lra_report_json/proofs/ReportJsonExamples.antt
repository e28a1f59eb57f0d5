-- The JSON of reports. Which slip an example would catch stands beside it.
use Rattle.std.proofs.Common.{◌≡◌, pos, negsuc, List, [], ◌∷◌, ◌++◌, Some, None, true, refl}
use Rattle.std.specs.{Fmt.digits, Prelude.codes}
use Rattle.serde_json.proofs.OnLiterals.{serde_json_on_literals}
use Rattle.lra_options.specs.{OptionRows.default_options, declared.options.Domain.TheVariants.Box}
use Rattle.lra_report.specs.Report.{Place, PointReport}
use Rattle.lra_row_text.specs.{Part.Part, Texts.text_line}
use Rattle.lra_report.proofs.ReportTextExamples.{empty_main, fitting, accessing, rows_alone, is_zero}
use Rattle.serde_json.specs.Written.{compact_text}
use Rattle.lra_report_json.specs.ReportJson.{flag_data, point_data, report_json}

-- keys in byte order, and no blank
empty_main_json : report_json empty_main
    ≡ text_line (codes "{\"analysis\":{\"delay\":1,\"domain\":\"poly\",\"limited\":false,\"narrow\":1,\"parts\":1},\"asserts\":[]"
    ++ codes ",\"flagged\":0,\"points\":[{\"number\":1,\"parts\":[{\"generators\":[\"point\"],\"rows\":[]}],\"path\":\"main\",\"place\":\"1:16\"}],\"proved\":0,\"unknown\":0}")
unfolding digits serde_json_on_literals
empty_main_json = refl

-- verdicts of two kinds; catches what fits among the assertions
fitting_json : report_json fitting
    ≡ text_line (codes "{\"analysis\":{\"delay\":1,\"domain\":\"box\",\"fits\":true,\"limited\":false,\"narrow\":1,\"parts\":1},\"asserts\":[]"
    ++ codes ",\"fits\":[{\"point\":2,\"verdict\":\"fits\"},{\"point\":3,\"verdict\":\"may overflow\"}],\"flagged\":0"
    ++ codes ",\"points\":[{\"number\":4,\"parts\":[{\"rows\":[\"x >= -2147483648\",\"x <= 2147483647\"]}],\"path\":\"main\",\"place\":\"1:40\"}]"
    ++ codes ",\"proved\":0,\"unknown\":0}")
unfolding digits serde_json_on_literals
fitting_json = refl

-- accesses at their places; catches one among the assertions, or reported without its place
accessing_json : report_json accessing
    ≡ text_line (codes "{\"accesses\":[{\"place\":\"1:27\",\"point\":2,\"verdict\":\"in bounds\"}"
    ++ codes ",{\"place\":\"1:32\",\"point\":2,\"verdict\":\"in bounds\"},{\"place\":\"1:38\",\"point\":3,\"verdict\":\"unknown\"}]"
    ++ codes ",\"analysis\":{\"delay\":1,\"domain\":\"box\",\"limited\":false,\"narrow\":1,\"parts\":1},\"asserts\":[],\"flagged\":0"
    ++ codes ",\"points\":[{\"number\":4,\"parts\":[{\"rows\":[]}],\"path\":\"main\",\"place\":\"1:46\"}],\"proved\":2,\"unknown\":1}")
unfolding digits serde_json_on_literals
accessing_json = refl

-- if it is asked what fits and nothing is computed
nothing_computed : report_json (record empty_main { options = record default_options { fits = true }; points = [] })
    ≡ text_line (codes "{\"analysis\":{\"delay\":1,\"domain\":\"poly\",\"fits\":true,\"limited\":false,\"narrow\":1,\"parts\":1},\"asserts\":[]"
    ++ codes ",\"fits\":[],\"flagged\":0,\"points\":[],\"proved\":0,\"unknown\":0}")
unfolding digits serde_json_on_literals
nothing_computed = refl

-- int main(void){ long x; if(input()) x=0; else x=5; } at its end
abbrev end_of : List Part → PointReport
end_of state = record {
  number = 5;
  point = record { path = []; label = 5 };
  path = codes "main";
  place = (let at : Place = record { line = 1; column = 52 } in at);
  names = codes "x" ∷ [];
  state = state;
}

-- a word between the parts, or generators of a box
two_parts : compact_text (point_data Box (end_of (rows_alone (is_zero (pos 0) (pos 1 ∷ []) ∷ []) ∷ rows_alone (is_zero (negsuc 4) (pos 1 ∷ []) ∷ []) ∷ [])))
    ≡ codes "{\"number\":5,\"parts\":[{\"rows\":[\"x = 0\"]},{\"rows\":[\"x = 5\"]}],\"path\":\"main\",\"place\":\"1:52\"}"
unfolding digits serde_json_on_literals
two_parts = refl

-- unreachable as a part, or as the part without rows
unreachable : compact_text (point_data Box (end_of [])) ≡ codes "{\"number\":5,\"parts\":[],\"path\":\"main\",\"place\":\"1:52\"}"
unfolding digits serde_json_on_literals
unreachable = refl

flagged : (compact_text (flag_data None) ≡ codes "0") × (compact_text (flag_data (Some 128)) ≡ codes "128")
unfolding digits
flagged = (refl, refl)
