-- Two texts, and what the definitions say is printed, as the checker computes.
use mathlib.Core.Path.{◌≡◌, refl}
use mathlib.Core.Bool.{xor}
use mathlib.Core.List.{[]}
use Rattle.plane.specs.Lists.{any, odd, only, sum}
use Rattle.plane.specs.Words.{eq_z, different, in_range, points_of, flat_points, point_in_range, same, on_row, in_column, before, area_of}
use Rattle.plane.specs.Sorted.{insert_by, sorted_by}
use Rattle.plane.specs.Edge.{pairs, in_pairs, line, line_edge, edge_length}
use Rattle.plane.specs.Remaining.{firsts, remaining}
use Rattle.entry.specs.Checks.{first_from, judged, verdict}
use Rattle.rule.specs.Rule.{first_in, pick_k, right_of, pick_l, over, left_of, stops, stopper, pick_m, rect_of, place_of, remove, add, toggle, toggle_four, take_rect, step, run, rule_list}
use Rattle.rule.specs.Rows.{balance_checks}
use Rattle.rule.specs.ForwardCall.{forward_checks, input_checks}
use Rattle.numerals.specs.Bytes.{ascii}
use Rattle.numerals.specs.Numerals.{is_digit, are_digits, one_to_ten, value_after, value_of, number_of, digits_of, decimal, signed}
use Rattle.reading.specs.Lines.{before_first as up_to, after_first, lines_of, line_point, is_bad, points_in}
use Rattle.reading.specs.Reading.{text_checks}
use Rattle.text.specs.Program.{program_checks, sums_line, rect_line, rect_lines, list_lines, program_prints}

-- no points
pub empty-prints : program_prints [] ≡ ascii "rects 0 area 0 edge 0\n"
unfolding sum different points_of flat_points line_edge edge_length firsts remaining only run rule_list balance_checks input_checks forward_checks first_from judged verdict digits_of decimal lines_of points_in text_checks program_checks sums_line rect_lines list_lines program_prints
empty-prints = refl

-- case B, with request 1's edge
pub case-b-prints : program_prints (ascii "0 0\n4 0\n4 1\n8 1\n8 3\n4 3\n4 5\n1 5\n1 3\n0 3\n") ≡ ascii "rects 3 area 26 edge 26\n0 0 4 3\n4 1 4 2\n1 3 3 2\n"
unfolding xor any odd only sum eq_z different in_range points_of flat_points point_in_range same on_row in_column before area_of
    insert_by sorted_by pairs in_pairs line line_edge edge_length firsts remaining
    first_in pick_k right_of pick_l over left_of stops stopper pick_m rect_of place_of remove add toggle toggle_four take_rect step run rule_list
    balance_checks input_checks forward_checks first_from judged verdict
    is_digit are_digits one_to_ten value_after value_of number_of digits_of decimal signed
    up_to after_first lines_of line_point is_bad points_in text_checks program_checks sums_line rect_line rect_lines list_lines program_prints
case-b-prints = refl

-- case I: the corner that two squares share is given twice, and cancels
pub case-i-prints : program_prints (ascii "0 0\n1 0\n0 1\n1 1\n1 1\n2 1\n1 2\n2 2\n") ≡ ascii "rects 2 area 2 edge 8\n0 0 1 1\n1 1 1 1\n"
unfolding xor any odd only sum eq_z different in_range points_of flat_points point_in_range same on_row in_column before area_of
    insert_by sorted_by pairs in_pairs line line_edge edge_length firsts remaining
    first_in pick_k right_of pick_l over left_of stops stopper pick_m rect_of place_of remove add toggle toggle_four take_rect step run rule_list
    balance_checks input_checks forward_checks first_from judged verdict
    is_digit are_digits one_to_ten value_after value_of number_of digits_of decimal signed
    up_to after_first lines_of line_point is_bad points_in text_checks program_checks sums_line rect_line rect_lines list_lines program_prints
case-i-prints = refl
