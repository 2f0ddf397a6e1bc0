-- Values as members: the last member counts, and what is written reads back.
use Rattle.std.proofs.Common.{◌≡◌, ℕ, ℤ, pos, Bool, true, false, if◌then◌else◌, Some, refl, ap, ◌∙◌, inl, inr, ne_eqb}
use Rattle.std.specs.Ordering.{int_eq}
use Rattle.cat_values.specs.declared.statistics.StatValue.{StatValue}
use Rattle.cat_values.specs.declared.statistics.StatValue.TheVariants.{Flags, Long, Str}
use Rattle.thrift_binary.specs.Building.{followed}
use Rattle.thrift_binary.specs.Codes.{struct_code}
use Rattle.thrift_binary.specs.Tree.{Wire, Struct, Fields, NoFields, Field}
use Rattle.ms_structs.specs.declared.got.Got.{Got}
use Rattle.ms_structs.specs.declared.got.Got.TheVariants.{Nothing, Is}
use Rattle.ms_structs.specs.Slots.{fold_fields, over, said_or_bad}
use Rattle.ms_structs.proofs.Others.{ne_int_eq}
use Rattle.stat_structs.specs.declared.members.MemberFields.{MemberFields}
use Rattle.stat_structs.specs.Flags.{flags_from, flags_made, flags_none, flags_of, flags_set}
use Rattle.stat_structs.specs.Laws.{AreOthers, IsOther, LastCounts, MembersReadBack, NoMemberNoValue}
use Rattle.stat_structs.specs.Longs.{long_from, long_made, long_none, long_of, long_set}
use Rattle.stat_structs.specs.Members.{member_none, member_of, member_said, member_set, member_tree, member_whole}
use Rattle.stat_structs.specs.Strings.{string_from, string_made, string_none, string_of, string_set}
use Rattle.stat_structs.proofs.FlagLaws.{flags_read}
use Rattle.stat_structs.proofs.LongLaws.{long_read}
use Rattle.stat_structs.proofs.StringLaws.{string_read}

-- ---- the last member counts

abbrev nothing : Got StatValue
nothing = Nothing

no_choice : (a b c : Bool) → (if a then nothing else (if b then nothing else (if c then nothing else nothing))) ≡ nothing
no_choice true b c = refl
no_choice false true c = refl
no_choice false false true = refl
no_choice false false false = refl

other_said : (ty : ℕ) (id : ℤ) (w : Wire) → IsOther ty id → member_said ty id w ≡ Nothing
other_said ty id w (inl ne) = rw (ne_eqb ty struct_code ne) (no_choice (int_eq id (pos 1)) (int_eq id (pos 2)) (int_eq id (pos 4)))
other_said ty id w (inr ne) = rw (ne_int_eq id (pos 1) ne.0, ne_int_eq id (pos 2) ne.1, ne_int_eq id (pos 4) ne.2) refl

-- the slot with this over what it held
abbrev put : MemberFields → Got StatValue → MemberFields
put f got = record { value = over got f.value }

-- fields that are no members leave the slot
others_behind : (v : Fields) (f : MemberFields) → AreOthers v → fold_fields member_set f v ≡ f
others_behind NoFields f others = refl
others_behind (Field ty id w v) f others = ap (λ got. fold_fields member_set (put f got) v) (other_said ty id w others.0) ∙ others_behind v f others.1

behind_both : (before after : Fields) (f : MemberFields) → fold_fields member_set f (followed before after) ≡ fold_fields member_set (fold_fields member_set f before) after
behind_both NoFields after f = refl
behind_both (Field ty id w before) after f = behind_both before after (member_set f ty id w)

last_counts : (id : ℤ) (member before after : Fields) (value : StatValue) → member_said struct_code id (Struct member) ≡ Is value → AreOthers after
    → member_of (Struct (followed before (Field struct_code id (Struct member) after))) ≡ Is (Some value)
unfolding member_of
last_counts id member before after value says others =
    let held = fold_fields member_set member_none before in
    ap (λ f. said_or_bad (member_whole f)) (
    behind_both before (Field struct_code id (Struct member) after) member_none
    ∙ others_behind after (member_set held struct_code id (Struct member)) others
    ∙ ap (λ got. put held got) says
    )

pub flags_count : LastCounts (pos 1) flags_made
unfolding flags_of
flags_count before member after others = last_counts (pos 1) member before after (flags_from (fold_fields flags_set flags_none member)) refl others

pub longs_count : LastCounts (pos 2) long_made
unfolding long_of
longs_count before member after others = last_counts (pos 2) member before after (long_from (fold_fields long_set long_none member)) refl others

pub strings_count : LastCounts (pos 4) string_made
unfolding string_of
strings_count before member after others = last_counts (pos 4) member before after (string_from (fold_fields string_set string_none member)) refl others

pub no_member_no_value : NoMemberNoValue
unfolding member_of
no_member_no_value v others = ap (λ f. said_or_bad (member_whole f)) (others_behind v member_none others)

-- ---- what is written reads back

pub members_read_back : MembersReadBack
unfolding member_of member_tree
members_read_back (Flags trues falses nulls) = ap (λ got. said_or_bad (member_whole (put member_none got))) (flags_read trues falses nulls)
members_read_back (Long low high nulls distinct) = ap (λ got. said_or_bad (member_whole (put member_none got))) (long_read low high nulls distinct)
members_read_back (Str longest average nulls distinct) = ap (λ got. said_or_bad (member_whole (put member_none got))) (string_read longest average nulls distinct)
