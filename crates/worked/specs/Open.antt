-- What a worked case opens: one name for each layer. Assumes nothing.
use Rattle.std.specs.Float.Ieee.{is_nan, lt, le, eq, add, sub, mul, div, neg, to_bits, of_bits}
use Rattle.float.specs.Float.{next_up, next_down, next_bits}
use Rattle.root.specs.Root.{sqrt_of}
use Rattle.exact.specs.Orient.{orient_of}
use Rattle.interval.specs.Ends.{outward, hull_of, add_i, sub_i, mul_i, square_of, sqr_i, holds_zero, sign_of, inverse_of}
use Rattle.interval.specs.Box.{dot_i, dot0, difference_i, residual_i, cross_i}
use Rattle.refusal.specs.Outcome.{walk, each}
use Rattle.lists.specs.Walks.{pairs_to, cyclic, numbered, all}
use Rattle.space.specs.Vector.{sub_v, add_v, scale_v, over_v, neg_v, dot_v, cross_v, length_v, box_of, fair_precision, finite_point}
use Rattle.space.specs.Frames.{short, frame_on, frame_by, hint_on, frame_along, frame_up, frame_of, plane_of, remark, face_plane, local_of}
use Rattle.space.specs.Near.{closeness_of, gap_i, near_of}
use Rattle.space.specs.Shapes.{corners, all_corners}
use Rattle.side.specs.Sides.{distance_of, height_of, classed, side_of, opposite_of}
use Rattle.polygon.specs.Unique.{both, scan, keep_if, keep_one, unique}
use Rattle.hull.specs.Hull.{flat_on, before_flat, insert_flat, sort_flat, turn, chain_one, chain, ringed, chains, hull_on, hull, cap_face, cap_of}
use Rattle.edge.specs.Meets.{noted, at_corner, held_back, corner_meet, crosses, no_ratio, between, landed, cut_meet, edge_meet}
use Rattle.ring.specs.Rings.{sign_one, push_face, push_cap, push_both, pushed, cut_by, cut_edge, cut_ring}
use Rattle.cell.specs.Cells.{is_full, add_face, keep_face, left_cell}
use Rattle.clip.specs.Cuts.{sign_face, signs_of, joined, cut_face, closed, cut_faces, cut_cell, clip_by, clip}
use Rattle.indexed.specs.Indexed.{place_in, index_point, index_face, indexed}
use Rattle.turns.specs.Turns.{determinant_of, turned, orientation_of, in_range}
use Rattle.outline.specs.Project.{handed, basis_of, seen, shadow_of, shadow_by, projected_of}
use Rattle.simple.specs.Simple.{first_of, each_of, settled, touches, apart, met_by, edges_by, edges_with, edges_of, pair_of, pair_at, simple_from, simple_of}
use Rattle.ears.specs.Places.{up_from, without, window_at}
use Rattle.ears.specs.Ears.{turn_at, blocked_where, resolved, inside_by, inside_of, block_in, block_at, or_else, blocked_by, ear_by, found_by, found_at, scan_from, scan_of}
use Rattle.mesh.specs.Mesh.{clip_by as clip_ear, clip_one, clip_from, clip_all, end_by, end_of, clipped_of, given, triangles_of, fair_facet, enough_on, mesh_on, mesh_of}

unfoldable pub open_numbers : Unit {0}
unfolding dot_i difference_i cross_i add_i sub_i mul_i outward hull_of square_of sqr_i holds_zero sign_of inverse_of next_up next_down next_bits add sub mul div neg lt le eq is_nan to_bits of_bits sqrt_of orient_of
open_numbers = tt

unfoldable pub open_space : Unit {0}
unfolding open_numbers walk each pairs_to cyclic numbered all sub_v add_v scale_v over_v neg_v dot_v cross_v length_v box_of short frame_on frame_by hint_on frame_along frame_up frame_of plane_of remark face_plane local_of closeness_of gap_i near_of corners all_corners
open_space = tt

unfoldable pub open_side : Unit {0}
unfolding open_space distance_of height_of classed side_of opposite_of
open_side = tt

unfoldable pub open_cut : Unit {0}
unfolding open_side both scan keep_if keep_one unique flat_on before_flat insert_flat sort_flat turn chain_one chain ringed chains hull_on hull cap_face cap_of noted at_corner held_back corner_meet crosses no_ratio between landed cut_meet edge_meet sign_one push_face push_cap push_both pushed cut_by cut_edge cut_ring is_full add_face keep_face left_cell sign_face signs_of joined cut_face closed cut_faces cut_cell clip_by clip
open_cut = tt

unfoldable pub open_indexed : Unit {0}
unfolding open_side place_in index_point index_face indexed
open_indexed = tt

unfoldable pub open_mesh : Unit {0}
unfolding open_space dot0 residual_i fair_precision finite_point determinant_of turned orientation_of in_range handed basis_of seen shadow_of shadow_by projected_of first_of each_of settled touches apart met_by edges_by edges_with edges_of pair_of pair_at simple_from simple_of up_from without window_at turn_at blocked_where resolved inside_by inside_of block_in block_at or_else blocked_by ear_by found_by found_at scan_from scan_of clip_ear clip_one clip_from clip_all end_by end_of clipped_of given triangles_of fair_facet enough_on mesh_on mesh_of
open_mesh = tt
