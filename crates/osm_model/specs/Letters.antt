-- The letters with which the fields of a line begin.
-- Source: Osmium's OPL manual.
use Rattle.std.specs.Prelude.{ℕ}

-- `n`
abbrev pub node_letter : ℕ
node_letter = 110

-- `w`
abbrev pub way_letter : ℕ
way_letter = 119

-- `r`
abbrev pub relation_letter : ℕ
relation_letter = 114

-- `v`
abbrev pub version_letter : ℕ
version_letter = 118

-- `d`
abbrev pub visible_letter : ℕ
visible_letter = 100

-- `c`
abbrev pub changeset_letter : ℕ
changeset_letter = 99

-- `t`
abbrev pub stamp_letter : ℕ
stamp_letter = 116

-- `i`
abbrev pub uid_letter : ℕ
uid_letter = 105

-- `u`
abbrev pub user_letter : ℕ
user_letter = 117

-- `T`
abbrev pub tags_letter : ℕ
tags_letter = 84

-- `N`
abbrev pub nodes_letter : ℕ
nodes_letter = 78

-- `M`
abbrev pub members_letter : ℕ
members_letter = 77

-- `x`
abbrev pub longitude_letter : ℕ
longitude_letter = 120

-- `y`
abbrev pub latitude_letter : ℕ
latitude_letter = 121

-- `V` after `d`: the object is visible
abbrev pub visible_mark : ℕ
visible_mark = 86

-- `D` after `d`: the object is deleted
abbrev pub deleted_mark : ℕ
deleted_mark = 68

-- `T` between the day and the time of a moment, and `Z` at its end
abbrev pub time_mark : ℕ
time_mark = 84

abbrev pub zone_mark : ℕ
zone_mark = 90
