-- Cases A to L, and the paper's stop row on B: the definitions give what document 01 says, of the edge what request 1 says and of case I what
-- request 2 says, line for line, as the checker computes.
use mathlib.Core.Path.{◌≡◌, refl}
use mathlib.Core.Bool.{xor}
use mathlib.Core.List.{map}
use Rattle.plane.specs.Lists.{any, odd, only, sum}
use Rattle.plane.specs.Words.{eq_z, different, in_range, points_of, flat_points, point_in_range, same, on_row, in_column, before, insert, in_order, fours_of, rects_of, flat_rects, rect_in_range, flat, corners_of, area_of}
use Rattle.plane.specs.Sorted.{insert_by, sorted_by}
use Rattle.plane.specs.Edge.{pairs, in_pairs, line, line_edge, edge_length}
use Rattle.plane.specs.Remaining.{firsts, remaining}
use Rattle.entry.specs.Checks.{first_from, judged, verdict}
use Rattle.rule.specs.Rule.{first_in, pick_k, right_of, pick_l, over, left_of, stops, stopper, pick_m, rect_of, place_of, remove, add, toggle, toggle_four, take_rect, step, run, rule_list}
use Rattle.rule.specs.Back.{is_corner, corners, odd_corner, back_list}
use Rattle.rule.specs.Working.{padded, work_of}
use Rattle.rule.specs.ForwardCall.{forward_answer, forward_out, forward_work, forward_checks, input_checks}
use Rattle.rule.specs.BackwardCall.{backward_checks}
use Rattle.rule.specs.StepCall.{step_answer, step_work, step_checks}
use Rattle.rule.specs.Cases.{paper_m, paper_step, paper_list, gives, cases}
use Rattle.rule.specs.Rows.{balance_checks, point_checks}

pub cases-hold : map (λ line. gives line.asked) cases ≡ map (λ line. line.says) cases
unfolding xor any odd only sum eq_z different in_range points_of flat_points point_in_range same on_row in_column before insert in_order fours_of rects_of flat_rects rect_in_range flat corners_of area_of
    insert_by sorted_by pairs in_pairs line line_edge edge_length firsts remaining
    first_in pick_k right_of pick_l over left_of stops stopper pick_m rect_of place_of remove add toggle toggle_four take_rect step run rule_list
    is_corner corners odd_corner back_list balance_checks point_checks input_checks forward_checks backward_checks step_checks first_from judged verdict
    padded work_of forward_answer forward_out forward_work step_answer step_work paper_m paper_step paper_list gives cases
cases-hold = refl
