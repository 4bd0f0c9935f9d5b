-- Made by tools/rows, which says how and why; the gate makes it anew and compares.
use Rattle.std.proofs.Common.{◌≡◌, refl, arith}
use Rattle.crc32c_format.specs.Crc.{bit_steps, bit_step}
use Rattle.crc32c_rows_first.proofs.Literal.{at}
use Rattle.crc32c_rows_first.proofs.row1.Goals as goal

pub returns-in-0 : goal.returns-in-0
unfolding bit_steps bit_step
returns-in-0 c = at 16 _ 0 0xfbc3faf9 c.in-0.is refl

pub returns-in-1 : goal.returns-in-1
unfolding bit_steps bit_step
returns-in-1 c = at 16 _ 1 0xe861628e c.in-1.is refl

pub returns-in-2 : goal.returns-in-2
unfolding bit_steps bit_step
returns-in-2 c = at 16 _ 2 0xdc86ca17 c.in-2.is refl

pub returns-in-3 : goal.returns-in-3
unfolding bit_steps bit_step
returns-in-3 c = at 16 _ 3 0xcf245260 c.in-3.is refl

pub returns-in-4 : goal.returns-in-4
unfolding bit_steps bit_step
returns-in-4 c = at 16 _ 4 0xb5499b25 c.in-4.is refl

pub returns-in-5 : goal.returns-in-5
unfolding bit_steps bit_step
returns-in-5 c = at 16 _ 5 0xa6eb0352 c.in-5.is refl

pub returns-in-6 : goal.returns-in-6
unfolding bit_steps bit_step
returns-in-6 c = at 16 _ 6 0x920cabcb c.in-6.is refl

pub returns-in-7 : goal.returns-in-7
unfolding bit_steps bit_step
returns-in-7 c = at 16 _ 7 0x81ae33bc c.in-7.is refl

pub returns-in-8 : goal.returns-in-8
unfolding bit_steps bit_step
returns-in-8 c = at 16 _ 8 0x66d73941 c.in-8.is refl

pub returns-in-9 : goal.returns-in-9
unfolding bit_steps bit_step
returns-in-9 c = at 16 _ 9 0x7575a136 c.in-9.is refl

pub returns-in-10 : goal.returns-in-10
unfolding bit_steps bit_step
returns-in-10 c = at 16 _ 10 0x419209af c.in-10.is refl

pub returns-in-11 : goal.returns-in-11
unfolding bit_steps bit_step
returns-in-11 c = at 16 _ 11 0x523091d8 c.in-11.is refl

pub returns-in-12 : goal.returns-in-12
unfolding bit_steps bit_step
returns-in-12 c = at 16 _ 12 0x285d589d c.in-12.is refl

pub returns-in-13 : goal.returns-in-13
unfolding bit_steps bit_step
returns-in-13 c = at 16 _ 13 0x3bffc0ea c.in-13.is refl

pub returns-in-14 : goal.returns-in-14
unfolding bit_steps bit_step
returns-in-14 c = at 16 _ 14 0x0f186873 c.in-14.is refl

pub returns-in-15 : goal.returns-in-15
unfolding bit_steps bit_step
returns-in-15 c = at 16 _ 15 0x1cbaf004 c.in-15.is refl

pub returns-in-16 : goal.returns-in-16
unfolding bit_steps bit_step
returns-in-16 c = at 16 _ 16 0xc4060b78 c.in-16.is refl

pub returns-in-17 : goal.returns-in-17
unfolding bit_steps bit_step
returns-in-17 c = at 16 _ 17 0xd7a4930f c.in-17.is refl

pub returns-in-18 : goal.returns-in-18
unfolding bit_steps bit_step
returns-in-18 c = at 16 _ 18 0xe3433b96 c.in-18.is refl

pub returns-in-19 : goal.returns-in-19
unfolding bit_steps bit_step
returns-in-19 c = at 16 _ 19 0xf0e1a3e1 c.in-19.is refl

pub returns-in-20 : goal.returns-in-20
unfolding bit_steps bit_step
returns-in-20 c = at 16 _ 20 0x8a8c6aa4 c.in-20.is refl

pub returns-in-21 : goal.returns-in-21
unfolding bit_steps bit_step
returns-in-21 c = at 16 _ 21 0x992ef2d3 c.in-21.is refl

pub returns-in-22 : goal.returns-in-22
unfolding bit_steps bit_step
returns-in-22 c = at 16 _ 22 0xadc95a4a c.in-22.is refl

pub returns-in-23 : goal.returns-in-23
unfolding bit_steps bit_step
returns-in-23 c = at 16 _ 23 0xbe6bc23d c.in-23.is refl

pub returns-in-24 : goal.returns-in-24
unfolding bit_steps bit_step
returns-in-24 c = at 16 _ 24 0x5912c8c0 c.in-24.is refl

pub returns-in-25 : goal.returns-in-25
unfolding bit_steps bit_step
returns-in-25 c = at 16 _ 25 0x4ab050b7 c.in-25.is refl

pub returns-in-26 : goal.returns-in-26
unfolding bit_steps bit_step
returns-in-26 c = at 16 _ 26 0x7e57f82e c.in-26.is refl

pub returns-in-27 : goal.returns-in-27
unfolding bit_steps bit_step
returns-in-27 c = at 16 _ 27 0x6df56059 c.in-27.is refl

pub returns-in-28 : goal.returns-in-28
unfolding bit_steps bit_step
returns-in-28 c = at 16 _ 28 0x1798a91c c.in-28.is refl

pub returns-in-29 : goal.returns-in-29
unfolding bit_steps bit_step
returns-in-29 c = at 16 _ 29 0x043a316b c.in-29.is refl

pub returns-in-30 : goal.returns-in-30
unfolding bit_steps bit_step
returns-in-30 c = at 16 _ 30 0x30dd99f2 c.in-30.is refl

pub returns-in-31 : goal.returns-in-31
unfolding bit_steps bit_step
returns-in-31 c = at 16 _ 31 0x237f0185 c.in-31.is refl

pub returns-in-32 : goal.returns-in-32
unfolding bit_steps bit_step
returns-in-32 c = at 16 _ 32 0x844819fb c.in-32.is refl

pub returns-in-33 : goal.returns-in-33
unfolding bit_steps bit_step
returns-in-33 c = at 16 _ 33 0x97ea818c c.in-33.is refl

pub returns-in-34 : goal.returns-in-34
unfolding bit_steps bit_step
returns-in-34 c = at 16 _ 34 0xa30d2915 c.in-34.is refl

pub returns-in-35 : goal.returns-in-35
unfolding bit_steps bit_step
returns-in-35 c = at 16 _ 35 0xb0afb162 c.in-35.is refl

pub returns-in-36 : goal.returns-in-36
unfolding bit_steps bit_step
returns-in-36 c = at 16 _ 36 0xcac27827 c.in-36.is refl

pub returns-in-37 : goal.returns-in-37
unfolding bit_steps bit_step
returns-in-37 c = at 16 _ 37 0xd960e050 c.in-37.is refl

pub returns-in-38 : goal.returns-in-38
unfolding bit_steps bit_step
returns-in-38 c = at 16 _ 38 0xed8748c9 c.in-38.is refl

pub returns-in-39 : goal.returns-in-39
unfolding bit_steps bit_step
returns-in-39 c = at 16 _ 39 0xfe25d0be c.in-39.is refl

pub returns-in-40 : goal.returns-in-40
unfolding bit_steps bit_step
returns-in-40 c = at 16 _ 40 0x195cda43 c.in-40.is refl

pub returns-in-41 : goal.returns-in-41
unfolding bit_steps bit_step
returns-in-41 c = at 16 _ 41 0x0afe4234 c.in-41.is refl

pub returns-in-42 : goal.returns-in-42
unfolding bit_steps bit_step
returns-in-42 c = at 16 _ 42 0x3e19eaad c.in-42.is refl

pub returns-in-43 : goal.returns-in-43
unfolding bit_steps bit_step
returns-in-43 c = at 16 _ 43 0x2dbb72da c.in-43.is refl

pub returns-in-44 : goal.returns-in-44
unfolding bit_steps bit_step
returns-in-44 c = at 16 _ 44 0x57d6bb9f c.in-44.is refl

pub returns-in-45 : goal.returns-in-45
unfolding bit_steps bit_step
returns-in-45 c = at 16 _ 45 0x447423e8 c.in-45.is refl

pub returns-in-46 : goal.returns-in-46
unfolding bit_steps bit_step
returns-in-46 c = at 16 _ 46 0x70938b71 c.in-46.is refl

pub returns-in-47 : goal.returns-in-47
unfolding bit_steps bit_step
returns-in-47 c = at 16 _ 47 0x63311306 c.in-47.is refl

pub returns-in-48 : goal.returns-in-48
unfolding bit_steps bit_step
returns-in-48 c = at 16 _ 48 0xbb8de87a c.in-48.is refl

pub returns-in-49 : goal.returns-in-49
unfolding bit_steps bit_step
returns-in-49 c = at 16 _ 49 0xa82f700d c.in-49.is refl

pub returns-in-50 : goal.returns-in-50
unfolding bit_steps bit_step
returns-in-50 c = at 16 _ 50 0x9cc8d894 c.in-50.is refl

pub returns-in-51 : goal.returns-in-51
unfolding bit_steps bit_step
returns-in-51 c = at 16 _ 51 0x8f6a40e3 c.in-51.is refl

pub returns-in-52 : goal.returns-in-52
unfolding bit_steps bit_step
returns-in-52 c = at 16 _ 52 0xf50789a6 c.in-52.is refl

pub returns-in-53 : goal.returns-in-53
unfolding bit_steps bit_step
returns-in-53 c = at 16 _ 53 0xe6a511d1 c.in-53.is refl

pub returns-in-54 : goal.returns-in-54
unfolding bit_steps bit_step
returns-in-54 c = at 16 _ 54 0xd242b948 c.in-54.is refl

pub returns-in-55 : goal.returns-in-55
unfolding bit_steps bit_step
returns-in-55 c = at 16 _ 55 0xc1e0213f c.in-55.is refl

pub returns-in-56 : goal.returns-in-56
unfolding bit_steps bit_step
returns-in-56 c = at 16 _ 56 0x26992bc2 c.in-56.is refl

pub returns-in-57 : goal.returns-in-57
unfolding bit_steps bit_step
returns-in-57 c = at 16 _ 57 0x353bb3b5 c.in-57.is refl

pub returns-in-58 : goal.returns-in-58
unfolding bit_steps bit_step
returns-in-58 c = at 16 _ 58 0x01dc1b2c c.in-58.is refl

pub returns-in-59 : goal.returns-in-59
unfolding bit_steps bit_step
returns-in-59 c = at 16 _ 59 0x127e835b c.in-59.is refl

pub returns-in-60 : goal.returns-in-60
unfolding bit_steps bit_step
returns-in-60 c = at 16 _ 60 0x68134a1e c.in-60.is refl

pub returns-in-61 : goal.returns-in-61
unfolding bit_steps bit_step
returns-in-61 c = at 16 _ 61 0x7bb1d269 c.in-61.is refl

pub returns-in-62 : goal.returns-in-62
unfolding bit_steps bit_step
returns-in-62 c = at 16 _ 62 0x4f567af0 c.in-62.is refl

pub returns-in-63 : goal.returns-in-63
unfolding bit_steps bit_step
returns-in-63 c = at 16 _ 63 0x5cf4e287 c.in-63.is refl

pub returns-in-64 : goal.returns-in-64
unfolding bit_steps bit_step
returns-in-64 c = at 16 _ 64 0x04d43cfd c.in-64.is refl

pub returns-in-65 : goal.returns-in-65
unfolding bit_steps bit_step
returns-in-65 c = at 16 _ 65 0x1776a48a c.in-65.is refl

pub returns-in-66 : goal.returns-in-66
unfolding bit_steps bit_step
returns-in-66 c = at 16 _ 66 0x23910c13 c.in-66.is refl

pub returns-in-67 : goal.returns-in-67
unfolding bit_steps bit_step
returns-in-67 c = at 16 _ 67 0x30339464 c.in-67.is refl

pub returns-in-68 : goal.returns-in-68
unfolding bit_steps bit_step
returns-in-68 c = at 16 _ 68 0x4a5e5d21 c.in-68.is refl

pub returns-in-69 : goal.returns-in-69
unfolding bit_steps bit_step
returns-in-69 c = at 16 _ 69 0x59fcc556 c.in-69.is refl

pub returns-in-70 : goal.returns-in-70
unfolding bit_steps bit_step
returns-in-70 c = at 16 _ 70 0x6d1b6dcf c.in-70.is refl

pub returns-in-71 : goal.returns-in-71
unfolding bit_steps bit_step
returns-in-71 c = at 16 _ 71 0x7eb9f5b8 c.in-71.is refl

pub returns-in-72 : goal.returns-in-72
unfolding bit_steps bit_step
returns-in-72 c = at 16 _ 72 0x99c0ff45 c.in-72.is refl

pub returns-in-73 : goal.returns-in-73
unfolding bit_steps bit_step
returns-in-73 c = at 16 _ 73 0x8a626732 c.in-73.is refl

pub returns-in-74 : goal.returns-in-74
unfolding bit_steps bit_step
returns-in-74 c = at 16 _ 74 0xbe85cfab c.in-74.is refl

pub returns-in-75 : goal.returns-in-75
unfolding bit_steps bit_step
returns-in-75 c = at 16 _ 75 0xad2757dc c.in-75.is refl

pub returns-in-76 : goal.returns-in-76
unfolding bit_steps bit_step
returns-in-76 c = at 16 _ 76 0xd74a9e99 c.in-76.is refl

pub returns-in-77 : goal.returns-in-77
unfolding bit_steps bit_step
returns-in-77 c = at 16 _ 77 0xc4e806ee c.in-77.is refl

pub returns-in-78 : goal.returns-in-78
unfolding bit_steps bit_step
returns-in-78 c = at 16 _ 78 0xf00fae77 c.in-78.is refl

pub returns-in-79 : goal.returns-in-79
unfolding bit_steps bit_step
returns-in-79 c = at 16 _ 79 0xe3ad3600 c.in-79.is refl

pub returns-in-80 : goal.returns-in-80
unfolding bit_steps bit_step
returns-in-80 c = at 16 _ 80 0x3b11cd7c c.in-80.is refl

pub returns-in-81 : goal.returns-in-81
unfolding bit_steps bit_step
returns-in-81 c = at 16 _ 81 0x28b3550b c.in-81.is refl

pub returns-in-82 : goal.returns-in-82
unfolding bit_steps bit_step
returns-in-82 c = at 16 _ 82 0x1c54fd92 c.in-82.is refl

pub returns-in-83 : goal.returns-in-83
unfolding bit_steps bit_step
returns-in-83 c = at 16 _ 83 0x0ff665e5 c.in-83.is refl

pub returns-in-84 : goal.returns-in-84
unfolding bit_steps bit_step
returns-in-84 c = at 16 _ 84 0x759baca0 c.in-84.is refl

pub returns-in-85 : goal.returns-in-85
unfolding bit_steps bit_step
returns-in-85 c = at 16 _ 85 0x663934d7 c.in-85.is refl

pub returns-in-86 : goal.returns-in-86
unfolding bit_steps bit_step
returns-in-86 c = at 16 _ 86 0x52de9c4e c.in-86.is refl

pub returns-in-87 : goal.returns-in-87
unfolding bit_steps bit_step
returns-in-87 c = at 16 _ 87 0x417c0439 c.in-87.is refl

pub returns-in-88 : goal.returns-in-88
unfolding bit_steps bit_step
returns-in-88 c = at 16 _ 88 0xa6050ec4 c.in-88.is refl

pub returns-in-89 : goal.returns-in-89
unfolding bit_steps bit_step
returns-in-89 c = at 16 _ 89 0xb5a796b3 c.in-89.is refl

pub returns-in-90 : goal.returns-in-90
unfolding bit_steps bit_step
returns-in-90 c = at 16 _ 90 0x81403e2a c.in-90.is refl

pub returns-in-91 : goal.returns-in-91
unfolding bit_steps bit_step
returns-in-91 c = at 16 _ 91 0x92e2a65d c.in-91.is refl

pub returns-in-92 : goal.returns-in-92
unfolding bit_steps bit_step
returns-in-92 c = at 16 _ 92 0xe88f6f18 c.in-92.is refl

pub returns-in-93 : goal.returns-in-93
unfolding bit_steps bit_step
returns-in-93 c = at 16 _ 93 0xfb2df76f c.in-93.is refl

pub returns-in-94 : goal.returns-in-94
unfolding bit_steps bit_step
returns-in-94 c = at 16 _ 94 0xcfca5ff6 c.in-94.is refl

pub returns-in-95 : goal.returns-in-95
unfolding bit_steps bit_step
returns-in-95 c = at 16 _ 95 0xdc68c781 c.in-95.is refl

pub returns-in-96 : goal.returns-in-96
unfolding bit_steps bit_step
returns-in-96 c = at 16 _ 96 0x7b5fdfff c.in-96.is refl

pub returns-in-97 : goal.returns-in-97
unfolding bit_steps bit_step
returns-in-97 c = at 16 _ 97 0x68fd4788 c.in-97.is refl

pub returns-in-98 : goal.returns-in-98
unfolding bit_steps bit_step
returns-in-98 c = at 16 _ 98 0x5c1aef11 c.in-98.is refl

pub returns-in-99 : goal.returns-in-99
unfolding bit_steps bit_step
returns-in-99 c = at 16 _ 99 0x4fb87766 c.in-99.is refl

pub returns-in-100 : goal.returns-in-100
unfolding bit_steps bit_step
returns-in-100 c = at 16 _ 100 0x35d5be23 c.in-100.is refl

pub returns-in-101 : goal.returns-in-101
unfolding bit_steps bit_step
returns-in-101 c = at 16 _ 101 0x26772654 c.in-101.is refl

pub returns-in-102 : goal.returns-in-102
unfolding bit_steps bit_step
returns-in-102 c = at 16 _ 102 0x12908ecd c.in-102.is refl

pub returns-in-103 : goal.returns-in-103
unfolding bit_steps bit_step
returns-in-103 c = at 16 _ 103 0x013216ba c.in-103.is refl

pub returns-in-104 : goal.returns-in-104
unfolding bit_steps bit_step
returns-in-104 c = at 16 _ 104 0xe64b1c47 c.in-104.is refl

pub returns-in-105 : goal.returns-in-105
unfolding bit_steps bit_step
returns-in-105 c = at 16 _ 105 0xf5e98430 c.in-105.is refl

pub returns-in-106 : goal.returns-in-106
unfolding bit_steps bit_step
returns-in-106 c = at 16 _ 106 0xc10e2ca9 c.in-106.is refl

pub returns-in-107 : goal.returns-in-107
unfolding bit_steps bit_step
returns-in-107 c = at 16 _ 107 0xd2acb4de c.in-107.is refl

pub returns-in-108 : goal.returns-in-108
unfolding bit_steps bit_step
returns-in-108 c = at 16 _ 108 0xa8c17d9b c.in-108.is refl

pub returns-in-109 : goal.returns-in-109
unfolding bit_steps bit_step
returns-in-109 c = at 16 _ 109 0xbb63e5ec c.in-109.is refl

pub returns-in-110 : goal.returns-in-110
unfolding bit_steps bit_step
returns-in-110 c = at 16 _ 110 0x8f844d75 c.in-110.is refl

pub returns-in-111 : goal.returns-in-111
unfolding bit_steps bit_step
returns-in-111 c = at 16 _ 111 0x9c26d502 c.in-111.is refl

pub returns-in-112 : goal.returns-in-112
unfolding bit_steps bit_step
returns-in-112 c = at 16 _ 112 0x449a2e7e c.in-112.is refl

pub returns-in-113 : goal.returns-in-113
unfolding bit_steps bit_step
returns-in-113 c = at 16 _ 113 0x5738b609 c.in-113.is refl

pub returns-in-114 : goal.returns-in-114
unfolding bit_steps bit_step
returns-in-114 c = at 16 _ 114 0x63df1e90 c.in-114.is refl

pub returns-in-115 : goal.returns-in-115
unfolding bit_steps bit_step
returns-in-115 c = at 16 _ 115 0x707d86e7 c.in-115.is refl

pub returns-in-116 : goal.returns-in-116
unfolding bit_steps bit_step
returns-in-116 c = at 16 _ 116 0x0a104fa2 c.in-116.is refl

pub returns-in-117 : goal.returns-in-117
unfolding bit_steps bit_step
returns-in-117 c = at 16 _ 117 0x19b2d7d5 c.in-117.is refl

pub returns-in-118 : goal.returns-in-118
unfolding bit_steps bit_step
returns-in-118 c = at 16 _ 118 0x2d557f4c c.in-118.is refl

pub returns-in-119 : goal.returns-in-119
unfolding bit_steps bit_step
returns-in-119 c = at 16 _ 119 0x3ef7e73b c.in-119.is refl

pub returns-in-120 : goal.returns-in-120
unfolding bit_steps bit_step
returns-in-120 c = at 16 _ 120 0xd98eedc6 c.in-120.is refl

pub returns-in-121 : goal.returns-in-121
unfolding bit_steps bit_step
returns-in-121 c = at 16 _ 121 0xca2c75b1 c.in-121.is refl

pub returns-in-122 : goal.returns-in-122
unfolding bit_steps bit_step
returns-in-122 c = at 16 _ 122 0xfecbdd28 c.in-122.is refl

pub returns-in-123 : goal.returns-in-123
unfolding bit_steps bit_step
returns-in-123 c = at 16 _ 123 0xed69455f c.in-123.is refl

pub returns-in-124 : goal.returns-in-124
unfolding bit_steps bit_step
returns-in-124 c = at 16 _ 124 0x97048c1a c.in-124.is refl

pub returns-in-125 : goal.returns-in-125
unfolding bit_steps bit_step
returns-in-125 c = at 16 _ 125 0x84a6146d c.in-125.is refl

pub returns-in-126 : goal.returns-in-126
unfolding bit_steps bit_step
returns-in-126 c = at 16 _ 126 0xb041bcf4 c.in-126.is refl

pub returns-in-127 : goal.returns-in-127
unfolding bit_steps bit_step
returns-in-127 c = at 16 _ 127 0xa3e32483 c.in-127.is refl

pub returns-in-128 : goal.returns-in-128
unfolding bit_steps bit_step
returns-in-128 c = at 16 _ 128 0x00000000 c.in-128.is refl

pub returns-in-129 : goal.returns-in-129
unfolding bit_steps bit_step
returns-in-129 c = at 16 _ 129 0x13a29877 c.in-129.is refl

pub returns-in-130 : goal.returns-in-130
unfolding bit_steps bit_step
returns-in-130 c = at 16 _ 130 0x274530ee c.in-130.is refl

pub returns-in-131 : goal.returns-in-131
unfolding bit_steps bit_step
returns-in-131 c = at 16 _ 131 0x34e7a899 c.in-131.is refl

pub returns-in-132 : goal.returns-in-132
unfolding bit_steps bit_step
returns-in-132 c = at 16 _ 132 0x4e8a61dc c.in-132.is refl

pub returns-in-133 : goal.returns-in-133
unfolding bit_steps bit_step
returns-in-133 c = at 16 _ 133 0x5d28f9ab c.in-133.is refl

pub returns-in-134 : goal.returns-in-134
unfolding bit_steps bit_step
returns-in-134 c = at 16 _ 134 0x69cf5132 c.in-134.is refl

pub returns-in-135 : goal.returns-in-135
unfolding bit_steps bit_step
returns-in-135 c = at 16 _ 135 0x7a6dc945 c.in-135.is refl

pub returns-in-136 : goal.returns-in-136
unfolding bit_steps bit_step
returns-in-136 c = at 16 _ 136 0x9d14c3b8 c.in-136.is refl

pub returns-in-137 : goal.returns-in-137
unfolding bit_steps bit_step
returns-in-137 c = at 16 _ 137 0x8eb65bcf c.in-137.is refl

pub returns-in-138 : goal.returns-in-138
unfolding bit_steps bit_step
returns-in-138 c = at 16 _ 138 0xba51f356 c.in-138.is refl

pub returns-in-139 : goal.returns-in-139
unfolding bit_steps bit_step
returns-in-139 c = at 16 _ 139 0xa9f36b21 c.in-139.is refl

pub returns-in-140 : goal.returns-in-140
unfolding bit_steps bit_step
returns-in-140 c = at 16 _ 140 0xd39ea264 c.in-140.is refl

pub returns-in-141 : goal.returns-in-141
unfolding bit_steps bit_step
returns-in-141 c = at 16 _ 141 0xc03c3a13 c.in-141.is refl

pub returns-in-142 : goal.returns-in-142
unfolding bit_steps bit_step
returns-in-142 c = at 16 _ 142 0xf4db928a c.in-142.is refl

pub returns-in-143 : goal.returns-in-143
unfolding bit_steps bit_step
returns-in-143 c = at 16 _ 143 0xe7790afd c.in-143.is refl

pub returns-in-144 : goal.returns-in-144
unfolding bit_steps bit_step
returns-in-144 c = at 16 _ 144 0x3fc5f181 c.in-144.is refl

pub returns-in-145 : goal.returns-in-145
unfolding bit_steps bit_step
returns-in-145 c = at 16 _ 145 0x2c6769f6 c.in-145.is refl

pub returns-in-146 : goal.returns-in-146
unfolding bit_steps bit_step
returns-in-146 c = at 16 _ 146 0x1880c16f c.in-146.is refl

pub returns-in-147 : goal.returns-in-147
unfolding bit_steps bit_step
returns-in-147 c = at 16 _ 147 0x0b225918 c.in-147.is refl

pub returns-in-148 : goal.returns-in-148
unfolding bit_steps bit_step
returns-in-148 c = at 16 _ 148 0x714f905d c.in-148.is refl

pub returns-in-149 : goal.returns-in-149
unfolding bit_steps bit_step
returns-in-149 c = at 16 _ 149 0x62ed082a c.in-149.is refl

pub returns-in-150 : goal.returns-in-150
unfolding bit_steps bit_step
returns-in-150 c = at 16 _ 150 0x560aa0b3 c.in-150.is refl

pub returns-in-151 : goal.returns-in-151
unfolding bit_steps bit_step
returns-in-151 c = at 16 _ 151 0x45a838c4 c.in-151.is refl

pub returns-in-152 : goal.returns-in-152
unfolding bit_steps bit_step
returns-in-152 c = at 16 _ 152 0xa2d13239 c.in-152.is refl

pub returns-in-153 : goal.returns-in-153
unfolding bit_steps bit_step
returns-in-153 c = at 16 _ 153 0xb173aa4e c.in-153.is refl

pub returns-in-154 : goal.returns-in-154
unfolding bit_steps bit_step
returns-in-154 c = at 16 _ 154 0x859402d7 c.in-154.is refl

pub returns-in-155 : goal.returns-in-155
unfolding bit_steps bit_step
returns-in-155 c = at 16 _ 155 0x96369aa0 c.in-155.is refl

pub returns-in-156 : goal.returns-in-156
unfolding bit_steps bit_step
returns-in-156 c = at 16 _ 156 0xec5b53e5 c.in-156.is refl

pub returns-in-157 : goal.returns-in-157
unfolding bit_steps bit_step
returns-in-157 c = at 16 _ 157 0xfff9cb92 c.in-157.is refl

pub returns-in-158 : goal.returns-in-158
unfolding bit_steps bit_step
returns-in-158 c = at 16 _ 158 0xcb1e630b c.in-158.is refl

pub returns-in-159 : goal.returns-in-159
unfolding bit_steps bit_step
returns-in-159 c = at 16 _ 159 0xd8bcfb7c c.in-159.is refl

pub returns-in-160 : goal.returns-in-160
unfolding bit_steps bit_step
returns-in-160 c = at 16 _ 160 0x7f8be302 c.in-160.is refl

pub returns-in-161 : goal.returns-in-161
unfolding bit_steps bit_step
returns-in-161 c = at 16 _ 161 0x6c297b75 c.in-161.is refl

pub returns-in-162 : goal.returns-in-162
unfolding bit_steps bit_step
returns-in-162 c = at 16 _ 162 0x58ced3ec c.in-162.is refl

pub returns-in-163 : goal.returns-in-163
unfolding bit_steps bit_step
returns-in-163 c = at 16 _ 163 0x4b6c4b9b c.in-163.is refl

pub returns-in-164 : goal.returns-in-164
unfolding bit_steps bit_step
returns-in-164 c = at 16 _ 164 0x310182de c.in-164.is refl

pub returns-in-165 : goal.returns-in-165
unfolding bit_steps bit_step
returns-in-165 c = at 16 _ 165 0x22a31aa9 c.in-165.is refl

pub returns-in-166 : goal.returns-in-166
unfolding bit_steps bit_step
returns-in-166 c = at 16 _ 166 0x1644b230 c.in-166.is refl

pub returns-in-167 : goal.returns-in-167
unfolding bit_steps bit_step
returns-in-167 c = at 16 _ 167 0x05e62a47 c.in-167.is refl

pub returns-in-168 : goal.returns-in-168
unfolding bit_steps bit_step
returns-in-168 c = at 16 _ 168 0xe29f20ba c.in-168.is refl

pub returns-in-169 : goal.returns-in-169
unfolding bit_steps bit_step
returns-in-169 c = at 16 _ 169 0xf13db8cd c.in-169.is refl

pub returns-in-170 : goal.returns-in-170
unfolding bit_steps bit_step
returns-in-170 c = at 16 _ 170 0xc5da1054 c.in-170.is refl

pub returns-in-171 : goal.returns-in-171
unfolding bit_steps bit_step
returns-in-171 c = at 16 _ 171 0xd6788823 c.in-171.is refl

pub returns-in-172 : goal.returns-in-172
unfolding bit_steps bit_step
returns-in-172 c = at 16 _ 172 0xac154166 c.in-172.is refl

pub returns-in-173 : goal.returns-in-173
unfolding bit_steps bit_step
returns-in-173 c = at 16 _ 173 0xbfb7d911 c.in-173.is refl

pub returns-in-174 : goal.returns-in-174
unfolding bit_steps bit_step
returns-in-174 c = at 16 _ 174 0x8b507188 c.in-174.is refl

pub returns-in-175 : goal.returns-in-175
unfolding bit_steps bit_step
returns-in-175 c = at 16 _ 175 0x98f2e9ff c.in-175.is refl

pub returns-in-176 : goal.returns-in-176
unfolding bit_steps bit_step
returns-in-176 c = at 16 _ 176 0x404e1283 c.in-176.is refl

pub returns-in-177 : goal.returns-in-177
unfolding bit_steps bit_step
returns-in-177 c = at 16 _ 177 0x53ec8af4 c.in-177.is refl

pub returns-in-178 : goal.returns-in-178
unfolding bit_steps bit_step
returns-in-178 c = at 16 _ 178 0x670b226d c.in-178.is refl

pub returns-in-179 : goal.returns-in-179
unfolding bit_steps bit_step
returns-in-179 c = at 16 _ 179 0x74a9ba1a c.in-179.is refl

pub returns-in-180 : goal.returns-in-180
unfolding bit_steps bit_step
returns-in-180 c = at 16 _ 180 0x0ec4735f c.in-180.is refl

pub returns-in-181 : goal.returns-in-181
unfolding bit_steps bit_step
returns-in-181 c = at 16 _ 181 0x1d66eb28 c.in-181.is refl

pub returns-in-182 : goal.returns-in-182
unfolding bit_steps bit_step
returns-in-182 c = at 16 _ 182 0x298143b1 c.in-182.is refl

pub returns-in-183 : goal.returns-in-183
unfolding bit_steps bit_step
returns-in-183 c = at 16 _ 183 0x3a23dbc6 c.in-183.is refl

pub returns-in-184 : goal.returns-in-184
unfolding bit_steps bit_step
returns-in-184 c = at 16 _ 184 0xdd5ad13b c.in-184.is refl

pub returns-in-185 : goal.returns-in-185
unfolding bit_steps bit_step
returns-in-185 c = at 16 _ 185 0xcef8494c c.in-185.is refl

pub returns-in-186 : goal.returns-in-186
unfolding bit_steps bit_step
returns-in-186 c = at 16 _ 186 0xfa1fe1d5 c.in-186.is refl

pub returns-in-187 : goal.returns-in-187
unfolding bit_steps bit_step
returns-in-187 c = at 16 _ 187 0xe9bd79a2 c.in-187.is refl

pub returns-in-188 : goal.returns-in-188
unfolding bit_steps bit_step
returns-in-188 c = at 16 _ 188 0x93d0b0e7 c.in-188.is refl

pub returns-in-189 : goal.returns-in-189
unfolding bit_steps bit_step
returns-in-189 c = at 16 _ 189 0x80722890 c.in-189.is refl

pub returns-in-190 : goal.returns-in-190
unfolding bit_steps bit_step
returns-in-190 c = at 16 _ 190 0xb4958009 c.in-190.is refl

pub returns-in-191 : goal.returns-in-191
unfolding bit_steps bit_step
returns-in-191 c = at 16 _ 191 0xa737187e c.in-191.is refl

pub returns-in-192 : goal.returns-in-192
unfolding bit_steps bit_step
returns-in-192 c = at 16 _ 192 0xff17c604 c.in-192.is refl

pub returns-in-193 : goal.returns-in-193
unfolding bit_steps bit_step
returns-in-193 c = at 16 _ 193 0xecb55e73 c.in-193.is refl

pub returns-in-194 : goal.returns-in-194
unfolding bit_steps bit_step
returns-in-194 c = at 16 _ 194 0xd852f6ea c.in-194.is refl

pub returns-in-195 : goal.returns-in-195
unfolding bit_steps bit_step
returns-in-195 c = at 16 _ 195 0xcbf06e9d c.in-195.is refl

pub returns-in-196 : goal.returns-in-196
unfolding bit_steps bit_step
returns-in-196 c = at 16 _ 196 0xb19da7d8 c.in-196.is refl

pub returns-in-197 : goal.returns-in-197
unfolding bit_steps bit_step
returns-in-197 c = at 16 _ 197 0xa23f3faf c.in-197.is refl

pub returns-in-198 : goal.returns-in-198
unfolding bit_steps bit_step
returns-in-198 c = at 16 _ 198 0x96d89736 c.in-198.is refl

pub returns-in-199 : goal.returns-in-199
unfolding bit_steps bit_step
returns-in-199 c = at 16 _ 199 0x857a0f41 c.in-199.is refl

pub returns-in-200 : goal.returns-in-200
unfolding bit_steps bit_step
returns-in-200 c = at 16 _ 200 0x620305bc c.in-200.is refl

pub returns-in-201 : goal.returns-in-201
unfolding bit_steps bit_step
returns-in-201 c = at 16 _ 201 0x71a19dcb c.in-201.is refl

pub returns-in-202 : goal.returns-in-202
unfolding bit_steps bit_step
returns-in-202 c = at 16 _ 202 0x45463552 c.in-202.is refl

pub returns-in-203 : goal.returns-in-203
unfolding bit_steps bit_step
returns-in-203 c = at 16 _ 203 0x56e4ad25 c.in-203.is refl

pub returns-in-204 : goal.returns-in-204
unfolding bit_steps bit_step
returns-in-204 c = at 16 _ 204 0x2c896460 c.in-204.is refl

pub returns-in-205 : goal.returns-in-205
unfolding bit_steps bit_step
returns-in-205 c = at 16 _ 205 0x3f2bfc17 c.in-205.is refl

pub returns-in-206 : goal.returns-in-206
unfolding bit_steps bit_step
returns-in-206 c = at 16 _ 206 0x0bcc548e c.in-206.is refl

pub returns-in-207 : goal.returns-in-207
unfolding bit_steps bit_step
returns-in-207 c = at 16 _ 207 0x186eccf9 c.in-207.is refl

pub returns-in-208 : goal.returns-in-208
unfolding bit_steps bit_step
returns-in-208 c = at 16 _ 208 0xc0d23785 c.in-208.is refl

pub returns-in-209 : goal.returns-in-209
unfolding bit_steps bit_step
returns-in-209 c = at 16 _ 209 0xd370aff2 c.in-209.is refl

pub returns-in-210 : goal.returns-in-210
unfolding bit_steps bit_step
returns-in-210 c = at 16 _ 210 0xe797076b c.in-210.is refl

pub returns-in-211 : goal.returns-in-211
unfolding bit_steps bit_step
returns-in-211 c = at 16 _ 211 0xf4359f1c c.in-211.is refl

pub returns-in-212 : goal.returns-in-212
unfolding bit_steps bit_step
returns-in-212 c = at 16 _ 212 0x8e585659 c.in-212.is refl

pub returns-in-213 : goal.returns-in-213
unfolding bit_steps bit_step
returns-in-213 c = at 16 _ 213 0x9dface2e c.in-213.is refl

pub returns-in-214 : goal.returns-in-214
unfolding bit_steps bit_step
returns-in-214 c = at 16 _ 214 0xa91d66b7 c.in-214.is refl

pub returns-in-215 : goal.returns-in-215
unfolding bit_steps bit_step
returns-in-215 c = at 16 _ 215 0xbabffec0 c.in-215.is refl

pub returns-in-216 : goal.returns-in-216
unfolding bit_steps bit_step
returns-in-216 c = at 16 _ 216 0x5dc6f43d c.in-216.is refl

pub returns-in-217 : goal.returns-in-217
unfolding bit_steps bit_step
returns-in-217 c = at 16 _ 217 0x4e646c4a c.in-217.is refl

pub returns-in-218 : goal.returns-in-218
unfolding bit_steps bit_step
returns-in-218 c = at 16 _ 218 0x7a83c4d3 c.in-218.is refl

pub returns-in-219 : goal.returns-in-219
unfolding bit_steps bit_step
returns-in-219 c = at 16 _ 219 0x69215ca4 c.in-219.is refl

pub returns-in-220 : goal.returns-in-220
unfolding bit_steps bit_step
returns-in-220 c = at 16 _ 220 0x134c95e1 c.in-220.is refl

pub returns-in-221 : goal.returns-in-221
unfolding bit_steps bit_step
returns-in-221 c = at 16 _ 221 0x00ee0d96 c.in-221.is refl

pub returns-in-222 : goal.returns-in-222
unfolding bit_steps bit_step
returns-in-222 c = at 16 _ 222 0x3409a50f c.in-222.is refl

pub returns-in-223 : goal.returns-in-223
unfolding bit_steps bit_step
returns-in-223 c = at 16 _ 223 0x27ab3d78 c.in-223.is refl

pub returns-in-224 : goal.returns-in-224
unfolding bit_steps bit_step
returns-in-224 c = at 16 _ 224 0x809c2506 c.in-224.is refl

pub returns-in-225 : goal.returns-in-225
unfolding bit_steps bit_step
returns-in-225 c = at 16 _ 225 0x933ebd71 c.in-225.is refl

pub returns-in-226 : goal.returns-in-226
unfolding bit_steps bit_step
returns-in-226 c = at 16 _ 226 0xa7d915e8 c.in-226.is refl

pub returns-in-227 : goal.returns-in-227
unfolding bit_steps bit_step
returns-in-227 c = at 16 _ 227 0xb47b8d9f c.in-227.is refl

pub returns-in-228 : goal.returns-in-228
unfolding bit_steps bit_step
returns-in-228 c = at 16 _ 228 0xce1644da c.in-228.is refl

pub returns-in-229 : goal.returns-in-229
unfolding bit_steps bit_step
returns-in-229 c = at 16 _ 229 0xddb4dcad c.in-229.is refl

pub returns-in-230 : goal.returns-in-230
unfolding bit_steps bit_step
returns-in-230 c = at 16 _ 230 0xe9537434 c.in-230.is refl

pub returns-in-231 : goal.returns-in-231
unfolding bit_steps bit_step
returns-in-231 c = at 16 _ 231 0xfaf1ec43 c.in-231.is refl

pub returns-in-232 : goal.returns-in-232
unfolding bit_steps bit_step
returns-in-232 c = at 16 _ 232 0x1d88e6be c.in-232.is refl

pub returns-in-233 : goal.returns-in-233
unfolding bit_steps bit_step
returns-in-233 c = at 16 _ 233 0x0e2a7ec9 c.in-233.is refl

pub returns-in-234 : goal.returns-in-234
unfolding bit_steps bit_step
returns-in-234 c = at 16 _ 234 0x3acdd650 c.in-234.is refl

pub returns-in-235 : goal.returns-in-235
unfolding bit_steps bit_step
returns-in-235 c = at 16 _ 235 0x296f4e27 c.in-235.is refl

pub returns-in-236 : goal.returns-in-236
unfolding bit_steps bit_step
returns-in-236 c = at 16 _ 236 0x53028762 c.in-236.is refl

pub returns-in-237 : goal.returns-in-237
unfolding bit_steps bit_step
returns-in-237 c = at 16 _ 237 0x40a01f15 c.in-237.is refl

pub returns-in-238 : goal.returns-in-238
unfolding bit_steps bit_step
returns-in-238 c = at 16 _ 238 0x7447b78c c.in-238.is refl

pub returns-in-239 : goal.returns-in-239
unfolding bit_steps bit_step
returns-in-239 c = at 16 _ 239 0x67e52ffb c.in-239.is refl

pub returns-in-240 : goal.returns-in-240
unfolding bit_steps bit_step
returns-in-240 c = at 16 _ 240 0xbf59d487 c.in-240.is refl

pub returns-in-241 : goal.returns-in-241
unfolding bit_steps bit_step
returns-in-241 c = at 16 _ 241 0xacfb4cf0 c.in-241.is refl

pub returns-in-242 : goal.returns-in-242
unfolding bit_steps bit_step
returns-in-242 c = at 16 _ 242 0x981ce469 c.in-242.is refl

pub returns-in-243 : goal.returns-in-243
unfolding bit_steps bit_step
returns-in-243 c = at 16 _ 243 0x8bbe7c1e c.in-243.is refl

pub returns-in-244 : goal.returns-in-244
unfolding bit_steps bit_step
returns-in-244 c = at 16 _ 244 0xf1d3b55b c.in-244.is refl

pub returns-in-245 : goal.returns-in-245
unfolding bit_steps bit_step
returns-in-245 c = at 16 _ 245 0xe2712d2c c.in-245.is refl

pub returns-in-246 : goal.returns-in-246
unfolding bit_steps bit_step
returns-in-246 c = at 16 _ 246 0xd69685b5 c.in-246.is refl

pub returns-in-247 : goal.returns-in-247
unfolding bit_steps bit_step
returns-in-247 c = at 16 _ 247 0xc5341dc2 c.in-247.is refl

pub returns-in-248 : goal.returns-in-248
unfolding bit_steps bit_step
returns-in-248 c = at 16 _ 248 0x224d173f c.in-248.is refl

pub returns-in-249 : goal.returns-in-249
unfolding bit_steps bit_step
returns-in-249 c = at 16 _ 249 0x31ef8f48 c.in-249.is refl

pub returns-in-250 : goal.returns-in-250
unfolding bit_steps bit_step
returns-in-250 c = at 16 _ 250 0x050827d1 c.in-250.is refl

pub returns-in-251 : goal.returns-in-251
unfolding bit_steps bit_step
returns-in-251 c = at 16 _ 251 0x16aabfa6 c.in-251.is refl

pub returns-in-252 : goal.returns-in-252
unfolding bit_steps bit_step
returns-in-252 c = at 16 _ 252 0x6cc776e3 c.in-252.is refl

pub returns-in-253 : goal.returns-in-253
unfolding bit_steps bit_step
returns-in-253 c = at 16 _ 253 0x7f65ee94 c.in-253.is refl

pub returns-in-254 : goal.returns-in-254
unfolding bit_steps bit_step
returns-in-254 c = at 16 _ 254 0x4b82460d c.in-254.is refl

pub returns-in_default : goal.returns-in_default
unfolding bit_steps bit_step
returns-in_default c = let e : c.args.n ≡ 255 = omega arith in at 16 _ 255 0x5820de7a e refl
