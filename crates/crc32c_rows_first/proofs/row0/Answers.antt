-- Made by tools/rows, which says how and why; the gate makes it anew and compares.
use Rattle.std.proofs.Common.{◌≡◌, refl, arith}
use Rattle.crc32c_format.specs.Crc.{bit_steps, bit_step}
use Rattle.crc32c_rows_first.proofs.Literal.{at}
use Rattle.crc32c_rows_first.proofs.row0.Goals as goal

pub returns-in-0 : goal.returns-in-0
unfolding bit_steps bit_step
returns-in-0 c = at 8 _ 0 0x82f63b78 c.in-0.is refl

pub returns-in-1 : goal.returns-in-1
unfolding bit_steps bit_step
returns-in-1 c = at 8 _ 1 0x709db87b c.in-1.is refl

pub returns-in-2 : goal.returns-in-2
unfolding bit_steps bit_step
returns-in-2 c = at 8 _ 2 0x63cd4b8f c.in-2.is refl

pub returns-in-3 : goal.returns-in-3
unfolding bit_steps bit_step
returns-in-3 c = at 8 _ 3 0x91a6c88c c.in-3.is refl

pub returns-in-4 : goal.returns-in-4
unfolding bit_steps bit_step
returns-in-4 c = at 8 _ 4 0x456cac67 c.in-4.is refl

pub returns-in-5 : goal.returns-in-5
unfolding bit_steps bit_step
returns-in-5 c = at 8 _ 5 0xb7072f64 c.in-5.is refl

pub returns-in-6 : goal.returns-in-6
unfolding bit_steps bit_step
returns-in-6 c = at 8 _ 6 0xa457dc90 c.in-6.is refl

pub returns-in-7 : goal.returns-in-7
unfolding bit_steps bit_step
returns-in-7 c = at 8 _ 7 0x563c5f93 c.in-7.is refl

pub returns-in-8 : goal.returns-in-8
unfolding bit_steps bit_step
returns-in-8 c = at 8 _ 8 0x082f63b7 c.in-8.is refl

pub returns-in-9 : goal.returns-in-9
unfolding bit_steps bit_step
returns-in-9 c = at 8 _ 9 0xfa44e0b4 c.in-9.is refl

pub returns-in-10 : goal.returns-in-10
unfolding bit_steps bit_step
returns-in-10 c = at 8 _ 10 0xe9141340 c.in-10.is refl

pub returns-in-11 : goal.returns-in-11
unfolding bit_steps bit_step
returns-in-11 c = at 8 _ 11 0x1b7f9043 c.in-11.is refl

pub returns-in-12 : goal.returns-in-12
unfolding bit_steps bit_step
returns-in-12 c = at 8 _ 12 0xcfb5f4a8 c.in-12.is refl

pub returns-in-13 : goal.returns-in-13
unfolding bit_steps bit_step
returns-in-13 c = at 8 _ 13 0x3dde77ab c.in-13.is refl

pub returns-in-14 : goal.returns-in-14
unfolding bit_steps bit_step
returns-in-14 c = at 8 _ 14 0x2e8e845f c.in-14.is refl

pub returns-in-15 : goal.returns-in-15
unfolding bit_steps bit_step
returns-in-15 c = at 8 _ 15 0xdce5075c c.in-15.is refl

pub returns-in-16 : goal.returns-in-16
unfolding bit_steps bit_step
returns-in-16 c = at 8 _ 16 0x92a8fc17 c.in-16.is refl

pub returns-in-17 : goal.returns-in-17
unfolding bit_steps bit_step
returns-in-17 c = at 8 _ 17 0x60c37f14 c.in-17.is refl

pub returns-in-18 : goal.returns-in-18
unfolding bit_steps bit_step
returns-in-18 c = at 8 _ 18 0x73938ce0 c.in-18.is refl

pub returns-in-19 : goal.returns-in-19
unfolding bit_steps bit_step
returns-in-19 c = at 8 _ 19 0x81f80fe3 c.in-19.is refl

pub returns-in-20 : goal.returns-in-20
unfolding bit_steps bit_step
returns-in-20 c = at 8 _ 20 0x55326b08 c.in-20.is refl

pub returns-in-21 : goal.returns-in-21
unfolding bit_steps bit_step
returns-in-21 c = at 8 _ 21 0xa759e80b c.in-21.is refl

pub returns-in-22 : goal.returns-in-22
unfolding bit_steps bit_step
returns-in-22 c = at 8 _ 22 0xb4091bff c.in-22.is refl

pub returns-in-23 : goal.returns-in-23
unfolding bit_steps bit_step
returns-in-23 c = at 8 _ 23 0x466298fc c.in-23.is refl

pub returns-in-24 : goal.returns-in-24
unfolding bit_steps bit_step
returns-in-24 c = at 8 _ 24 0x1871a4d8 c.in-24.is refl

pub returns-in-25 : goal.returns-in-25
unfolding bit_steps bit_step
returns-in-25 c = at 8 _ 25 0xea1a27db c.in-25.is refl

pub returns-in-26 : goal.returns-in-26
unfolding bit_steps bit_step
returns-in-26 c = at 8 _ 26 0xf94ad42f c.in-26.is refl

pub returns-in-27 : goal.returns-in-27
unfolding bit_steps bit_step
returns-in-27 c = at 8 _ 27 0x0b21572c c.in-27.is refl

pub returns-in-28 : goal.returns-in-28
unfolding bit_steps bit_step
returns-in-28 c = at 8 _ 28 0xdfeb33c7 c.in-28.is refl

pub returns-in-29 : goal.returns-in-29
unfolding bit_steps bit_step
returns-in-29 c = at 8 _ 29 0x2d80b0c4 c.in-29.is refl

pub returns-in-30 : goal.returns-in-30
unfolding bit_steps bit_step
returns-in-30 c = at 8 _ 30 0x3ed04330 c.in-30.is refl

pub returns-in-31 : goal.returns-in-31
unfolding bit_steps bit_step
returns-in-31 c = at 8 _ 31 0xccbbc033 c.in-31.is refl

pub returns-in-32 : goal.returns-in-32
unfolding bit_steps bit_step
returns-in-32 c = at 8 _ 32 0xa24bb5a6 c.in-32.is refl

pub returns-in-33 : goal.returns-in-33
unfolding bit_steps bit_step
returns-in-33 c = at 8 _ 33 0x502036a5 c.in-33.is refl

pub returns-in-34 : goal.returns-in-34
unfolding bit_steps bit_step
returns-in-34 c = at 8 _ 34 0x4370c551 c.in-34.is refl

pub returns-in-35 : goal.returns-in-35
unfolding bit_steps bit_step
returns-in-35 c = at 8 _ 35 0xb11b4652 c.in-35.is refl

pub returns-in-36 : goal.returns-in-36
unfolding bit_steps bit_step
returns-in-36 c = at 8 _ 36 0x65d122b9 c.in-36.is refl

pub returns-in-37 : goal.returns-in-37
unfolding bit_steps bit_step
returns-in-37 c = at 8 _ 37 0x97baa1ba c.in-37.is refl

pub returns-in-38 : goal.returns-in-38
unfolding bit_steps bit_step
returns-in-38 c = at 8 _ 38 0x84ea524e c.in-38.is refl

pub returns-in-39 : goal.returns-in-39
unfolding bit_steps bit_step
returns-in-39 c = at 8 _ 39 0x7681d14d c.in-39.is refl

pub returns-in-40 : goal.returns-in-40
unfolding bit_steps bit_step
returns-in-40 c = at 8 _ 40 0x2892ed69 c.in-40.is refl

pub returns-in-41 : goal.returns-in-41
unfolding bit_steps bit_step
returns-in-41 c = at 8 _ 41 0xdaf96e6a c.in-41.is refl

pub returns-in-42 : goal.returns-in-42
unfolding bit_steps bit_step
returns-in-42 c = at 8 _ 42 0xc9a99d9e c.in-42.is refl

pub returns-in-43 : goal.returns-in-43
unfolding bit_steps bit_step
returns-in-43 c = at 8 _ 43 0x3bc21e9d c.in-43.is refl

pub returns-in-44 : goal.returns-in-44
unfolding bit_steps bit_step
returns-in-44 c = at 8 _ 44 0xef087a76 c.in-44.is refl

pub returns-in-45 : goal.returns-in-45
unfolding bit_steps bit_step
returns-in-45 c = at 8 _ 45 0x1d63f975 c.in-45.is refl

pub returns-in-46 : goal.returns-in-46
unfolding bit_steps bit_step
returns-in-46 c = at 8 _ 46 0x0e330a81 c.in-46.is refl

pub returns-in-47 : goal.returns-in-47
unfolding bit_steps bit_step
returns-in-47 c = at 8 _ 47 0xfc588982 c.in-47.is refl

pub returns-in-48 : goal.returns-in-48
unfolding bit_steps bit_step
returns-in-48 c = at 8 _ 48 0xb21572c9 c.in-48.is refl

pub returns-in-49 : goal.returns-in-49
unfolding bit_steps bit_step
returns-in-49 c = at 8 _ 49 0x407ef1ca c.in-49.is refl

pub returns-in-50 : goal.returns-in-50
unfolding bit_steps bit_step
returns-in-50 c = at 8 _ 50 0x532e023e c.in-50.is refl

pub returns-in-51 : goal.returns-in-51
unfolding bit_steps bit_step
returns-in-51 c = at 8 _ 51 0xa145813d c.in-51.is refl

pub returns-in-52 : goal.returns-in-52
unfolding bit_steps bit_step
returns-in-52 c = at 8 _ 52 0x758fe5d6 c.in-52.is refl

pub returns-in-53 : goal.returns-in-53
unfolding bit_steps bit_step
returns-in-53 c = at 8 _ 53 0x87e466d5 c.in-53.is refl

pub returns-in-54 : goal.returns-in-54
unfolding bit_steps bit_step
returns-in-54 c = at 8 _ 54 0x94b49521 c.in-54.is refl

pub returns-in-55 : goal.returns-in-55
unfolding bit_steps bit_step
returns-in-55 c = at 8 _ 55 0x66df1622 c.in-55.is refl

pub returns-in-56 : goal.returns-in-56
unfolding bit_steps bit_step
returns-in-56 c = at 8 _ 56 0x38cc2a06 c.in-56.is refl

pub returns-in-57 : goal.returns-in-57
unfolding bit_steps bit_step
returns-in-57 c = at 8 _ 57 0xcaa7a905 c.in-57.is refl

pub returns-in-58 : goal.returns-in-58
unfolding bit_steps bit_step
returns-in-58 c = at 8 _ 58 0xd9f75af1 c.in-58.is refl

pub returns-in-59 : goal.returns-in-59
unfolding bit_steps bit_step
returns-in-59 c = at 8 _ 59 0x2b9cd9f2 c.in-59.is refl

pub returns-in-60 : goal.returns-in-60
unfolding bit_steps bit_step
returns-in-60 c = at 8 _ 60 0xff56bd19 c.in-60.is refl

pub returns-in-61 : goal.returns-in-61
unfolding bit_steps bit_step
returns-in-61 c = at 8 _ 61 0x0d3d3e1a c.in-61.is refl

pub returns-in-62 : goal.returns-in-62
unfolding bit_steps bit_step
returns-in-62 c = at 8 _ 62 0x1e6dcdee c.in-62.is refl

pub returns-in-63 : goal.returns-in-63
unfolding bit_steps bit_step
returns-in-63 c = at 8 _ 63 0xec064eed c.in-63.is refl

pub returns-in-64 : goal.returns-in-64
unfolding bit_steps bit_step
returns-in-64 c = at 8 _ 64 0xc38d26c4 c.in-64.is refl

pub returns-in-65 : goal.returns-in-65
unfolding bit_steps bit_step
returns-in-65 c = at 8 _ 65 0x31e6a5c7 c.in-65.is refl

pub returns-in-66 : goal.returns-in-66
unfolding bit_steps bit_step
returns-in-66 c = at 8 _ 66 0x22b65633 c.in-66.is refl

pub returns-in-67 : goal.returns-in-67
unfolding bit_steps bit_step
returns-in-67 c = at 8 _ 67 0xd0ddd530 c.in-67.is refl

pub returns-in-68 : goal.returns-in-68
unfolding bit_steps bit_step
returns-in-68 c = at 8 _ 68 0x0417b1db c.in-68.is refl

pub returns-in-69 : goal.returns-in-69
unfolding bit_steps bit_step
returns-in-69 c = at 8 _ 69 0xf67c32d8 c.in-69.is refl

pub returns-in-70 : goal.returns-in-70
unfolding bit_steps bit_step
returns-in-70 c = at 8 _ 70 0xe52cc12c c.in-70.is refl

pub returns-in-71 : goal.returns-in-71
unfolding bit_steps bit_step
returns-in-71 c = at 8 _ 71 0x1747422f c.in-71.is refl

pub returns-in-72 : goal.returns-in-72
unfolding bit_steps bit_step
returns-in-72 c = at 8 _ 72 0x49547e0b c.in-72.is refl

pub returns-in-73 : goal.returns-in-73
unfolding bit_steps bit_step
returns-in-73 c = at 8 _ 73 0xbb3ffd08 c.in-73.is refl

pub returns-in-74 : goal.returns-in-74
unfolding bit_steps bit_step
returns-in-74 c = at 8 _ 74 0xa86f0efc c.in-74.is refl

pub returns-in-75 : goal.returns-in-75
unfolding bit_steps bit_step
returns-in-75 c = at 8 _ 75 0x5a048dff c.in-75.is refl

pub returns-in-76 : goal.returns-in-76
unfolding bit_steps bit_step
returns-in-76 c = at 8 _ 76 0x8ecee914 c.in-76.is refl

pub returns-in-77 : goal.returns-in-77
unfolding bit_steps bit_step
returns-in-77 c = at 8 _ 77 0x7ca56a17 c.in-77.is refl

pub returns-in-78 : goal.returns-in-78
unfolding bit_steps bit_step
returns-in-78 c = at 8 _ 78 0x6ff599e3 c.in-78.is refl

pub returns-in-79 : goal.returns-in-79
unfolding bit_steps bit_step
returns-in-79 c = at 8 _ 79 0x9d9e1ae0 c.in-79.is refl

pub returns-in-80 : goal.returns-in-80
unfolding bit_steps bit_step
returns-in-80 c = at 8 _ 80 0xd3d3e1ab c.in-80.is refl

pub returns-in-81 : goal.returns-in-81
unfolding bit_steps bit_step
returns-in-81 c = at 8 _ 81 0x21b862a8 c.in-81.is refl

pub returns-in-82 : goal.returns-in-82
unfolding bit_steps bit_step
returns-in-82 c = at 8 _ 82 0x32e8915c c.in-82.is refl

pub returns-in-83 : goal.returns-in-83
unfolding bit_steps bit_step
returns-in-83 c = at 8 _ 83 0xc083125f c.in-83.is refl

pub returns-in-84 : goal.returns-in-84
unfolding bit_steps bit_step
returns-in-84 c = at 8 _ 84 0x144976b4 c.in-84.is refl

pub returns-in-85 : goal.returns-in-85
unfolding bit_steps bit_step
returns-in-85 c = at 8 _ 85 0xe622f5b7 c.in-85.is refl

pub returns-in-86 : goal.returns-in-86
unfolding bit_steps bit_step
returns-in-86 c = at 8 _ 86 0xf5720643 c.in-86.is refl

pub returns-in-87 : goal.returns-in-87
unfolding bit_steps bit_step
returns-in-87 c = at 8 _ 87 0x07198540 c.in-87.is refl

pub returns-in-88 : goal.returns-in-88
unfolding bit_steps bit_step
returns-in-88 c = at 8 _ 88 0x590ab964 c.in-88.is refl

pub returns-in-89 : goal.returns-in-89
unfolding bit_steps bit_step
returns-in-89 c = at 8 _ 89 0xab613a67 c.in-89.is refl

pub returns-in-90 : goal.returns-in-90
unfolding bit_steps bit_step
returns-in-90 c = at 8 _ 90 0xb831c993 c.in-90.is refl

pub returns-in-91 : goal.returns-in-91
unfolding bit_steps bit_step
returns-in-91 c = at 8 _ 91 0x4a5a4a90 c.in-91.is refl

pub returns-in-92 : goal.returns-in-92
unfolding bit_steps bit_step
returns-in-92 c = at 8 _ 92 0x9e902e7b c.in-92.is refl

pub returns-in-93 : goal.returns-in-93
unfolding bit_steps bit_step
returns-in-93 c = at 8 _ 93 0x6cfbad78 c.in-93.is refl

pub returns-in-94 : goal.returns-in-94
unfolding bit_steps bit_step
returns-in-94 c = at 8 _ 94 0x7fab5e8c c.in-94.is refl

pub returns-in-95 : goal.returns-in-95
unfolding bit_steps bit_step
returns-in-95 c = at 8 _ 95 0x8dc0dd8f c.in-95.is refl

pub returns-in-96 : goal.returns-in-96
unfolding bit_steps bit_step
returns-in-96 c = at 8 _ 96 0xe330a81a c.in-96.is refl

pub returns-in-97 : goal.returns-in-97
unfolding bit_steps bit_step
returns-in-97 c = at 8 _ 97 0x115b2b19 c.in-97.is refl

pub returns-in-98 : goal.returns-in-98
unfolding bit_steps bit_step
returns-in-98 c = at 8 _ 98 0x020bd8ed c.in-98.is refl

pub returns-in-99 : goal.returns-in-99
unfolding bit_steps bit_step
returns-in-99 c = at 8 _ 99 0xf0605bee c.in-99.is refl

pub returns-in-100 : goal.returns-in-100
unfolding bit_steps bit_step
returns-in-100 c = at 8 _ 100 0x24aa3f05 c.in-100.is refl

pub returns-in-101 : goal.returns-in-101
unfolding bit_steps bit_step
returns-in-101 c = at 8 _ 101 0xd6c1bc06 c.in-101.is refl

pub returns-in-102 : goal.returns-in-102
unfolding bit_steps bit_step
returns-in-102 c = at 8 _ 102 0xc5914ff2 c.in-102.is refl

pub returns-in-103 : goal.returns-in-103
unfolding bit_steps bit_step
returns-in-103 c = at 8 _ 103 0x37faccf1 c.in-103.is refl

pub returns-in-104 : goal.returns-in-104
unfolding bit_steps bit_step
returns-in-104 c = at 8 _ 104 0x69e9f0d5 c.in-104.is refl

pub returns-in-105 : goal.returns-in-105
unfolding bit_steps bit_step
returns-in-105 c = at 8 _ 105 0x9b8273d6 c.in-105.is refl

pub returns-in-106 : goal.returns-in-106
unfolding bit_steps bit_step
returns-in-106 c = at 8 _ 106 0x88d28022 c.in-106.is refl

pub returns-in-107 : goal.returns-in-107
unfolding bit_steps bit_step
returns-in-107 c = at 8 _ 107 0x7ab90321 c.in-107.is refl

pub returns-in-108 : goal.returns-in-108
unfolding bit_steps bit_step
returns-in-108 c = at 8 _ 108 0xae7367ca c.in-108.is refl

pub returns-in-109 : goal.returns-in-109
unfolding bit_steps bit_step
returns-in-109 c = at 8 _ 109 0x5c18e4c9 c.in-109.is refl

pub returns-in-110 : goal.returns-in-110
unfolding bit_steps bit_step
returns-in-110 c = at 8 _ 110 0x4f48173d c.in-110.is refl

pub returns-in-111 : goal.returns-in-111
unfolding bit_steps bit_step
returns-in-111 c = at 8 _ 111 0xbd23943e c.in-111.is refl

pub returns-in-112 : goal.returns-in-112
unfolding bit_steps bit_step
returns-in-112 c = at 8 _ 112 0xf36e6f75 c.in-112.is refl

pub returns-in-113 : goal.returns-in-113
unfolding bit_steps bit_step
returns-in-113 c = at 8 _ 113 0x0105ec76 c.in-113.is refl

pub returns-in-114 : goal.returns-in-114
unfolding bit_steps bit_step
returns-in-114 c = at 8 _ 114 0x12551f82 c.in-114.is refl

pub returns-in-115 : goal.returns-in-115
unfolding bit_steps bit_step
returns-in-115 c = at 8 _ 115 0xe03e9c81 c.in-115.is refl

pub returns-in-116 : goal.returns-in-116
unfolding bit_steps bit_step
returns-in-116 c = at 8 _ 116 0x34f4f86a c.in-116.is refl

pub returns-in-117 : goal.returns-in-117
unfolding bit_steps bit_step
returns-in-117 c = at 8 _ 117 0xc69f7b69 c.in-117.is refl

pub returns-in-118 : goal.returns-in-118
unfolding bit_steps bit_step
returns-in-118 c = at 8 _ 118 0xd5cf889d c.in-118.is refl

pub returns-in-119 : goal.returns-in-119
unfolding bit_steps bit_step
returns-in-119 c = at 8 _ 119 0x27a40b9e c.in-119.is refl

pub returns-in-120 : goal.returns-in-120
unfolding bit_steps bit_step
returns-in-120 c = at 8 _ 120 0x79b737ba c.in-120.is refl

pub returns-in-121 : goal.returns-in-121
unfolding bit_steps bit_step
returns-in-121 c = at 8 _ 121 0x8bdcb4b9 c.in-121.is refl

pub returns-in-122 : goal.returns-in-122
unfolding bit_steps bit_step
returns-in-122 c = at 8 _ 122 0x988c474d c.in-122.is refl

pub returns-in-123 : goal.returns-in-123
unfolding bit_steps bit_step
returns-in-123 c = at 8 _ 123 0x6ae7c44e c.in-123.is refl

pub returns-in-124 : goal.returns-in-124
unfolding bit_steps bit_step
returns-in-124 c = at 8 _ 124 0xbe2da0a5 c.in-124.is refl

pub returns-in-125 : goal.returns-in-125
unfolding bit_steps bit_step
returns-in-125 c = at 8 _ 125 0x4c4623a6 c.in-125.is refl

pub returns-in-126 : goal.returns-in-126
unfolding bit_steps bit_step
returns-in-126 c = at 8 _ 126 0x5f16d052 c.in-126.is refl

pub returns-in-127 : goal.returns-in-127
unfolding bit_steps bit_step
returns-in-127 c = at 8 _ 127 0xad7d5351 c.in-127.is refl

pub returns-in-128 : goal.returns-in-128
unfolding bit_steps bit_step
returns-in-128 c = at 8 _ 128 0x00000000 c.in-128.is refl

pub returns-in-129 : goal.returns-in-129
unfolding bit_steps bit_step
returns-in-129 c = at 8 _ 129 0xf26b8303 c.in-129.is refl

pub returns-in-130 : goal.returns-in-130
unfolding bit_steps bit_step
returns-in-130 c = at 8 _ 130 0xe13b70f7 c.in-130.is refl

pub returns-in-131 : goal.returns-in-131
unfolding bit_steps bit_step
returns-in-131 c = at 8 _ 131 0x1350f3f4 c.in-131.is refl

pub returns-in-132 : goal.returns-in-132
unfolding bit_steps bit_step
returns-in-132 c = at 8 _ 132 0xc79a971f c.in-132.is refl

pub returns-in-133 : goal.returns-in-133
unfolding bit_steps bit_step
returns-in-133 c = at 8 _ 133 0x35f1141c c.in-133.is refl

pub returns-in-134 : goal.returns-in-134
unfolding bit_steps bit_step
returns-in-134 c = at 8 _ 134 0x26a1e7e8 c.in-134.is refl

pub returns-in-135 : goal.returns-in-135
unfolding bit_steps bit_step
returns-in-135 c = at 8 _ 135 0xd4ca64eb c.in-135.is refl

pub returns-in-136 : goal.returns-in-136
unfolding bit_steps bit_step
returns-in-136 c = at 8 _ 136 0x8ad958cf c.in-136.is refl

pub returns-in-137 : goal.returns-in-137
unfolding bit_steps bit_step
returns-in-137 c = at 8 _ 137 0x78b2dbcc c.in-137.is refl

pub returns-in-138 : goal.returns-in-138
unfolding bit_steps bit_step
returns-in-138 c = at 8 _ 138 0x6be22838 c.in-138.is refl

pub returns-in-139 : goal.returns-in-139
unfolding bit_steps bit_step
returns-in-139 c = at 8 _ 139 0x9989ab3b c.in-139.is refl

pub returns-in-140 : goal.returns-in-140
unfolding bit_steps bit_step
returns-in-140 c = at 8 _ 140 0x4d43cfd0 c.in-140.is refl

pub returns-in-141 : goal.returns-in-141
unfolding bit_steps bit_step
returns-in-141 c = at 8 _ 141 0xbf284cd3 c.in-141.is refl

pub returns-in-142 : goal.returns-in-142
unfolding bit_steps bit_step
returns-in-142 c = at 8 _ 142 0xac78bf27 c.in-142.is refl

pub returns-in-143 : goal.returns-in-143
unfolding bit_steps bit_step
returns-in-143 c = at 8 _ 143 0x5e133c24 c.in-143.is refl

pub returns-in-144 : goal.returns-in-144
unfolding bit_steps bit_step
returns-in-144 c = at 8 _ 144 0x105ec76f c.in-144.is refl

pub returns-in-145 : goal.returns-in-145
unfolding bit_steps bit_step
returns-in-145 c = at 8 _ 145 0xe235446c c.in-145.is refl

pub returns-in-146 : goal.returns-in-146
unfolding bit_steps bit_step
returns-in-146 c = at 8 _ 146 0xf165b798 c.in-146.is refl

pub returns-in-147 : goal.returns-in-147
unfolding bit_steps bit_step
returns-in-147 c = at 8 _ 147 0x030e349b c.in-147.is refl

pub returns-in-148 : goal.returns-in-148
unfolding bit_steps bit_step
returns-in-148 c = at 8 _ 148 0xd7c45070 c.in-148.is refl

pub returns-in-149 : goal.returns-in-149
unfolding bit_steps bit_step
returns-in-149 c = at 8 _ 149 0x25afd373 c.in-149.is refl

pub returns-in-150 : goal.returns-in-150
unfolding bit_steps bit_step
returns-in-150 c = at 8 _ 150 0x36ff2087 c.in-150.is refl

pub returns-in-151 : goal.returns-in-151
unfolding bit_steps bit_step
returns-in-151 c = at 8 _ 151 0xc494a384 c.in-151.is refl

pub returns-in-152 : goal.returns-in-152
unfolding bit_steps bit_step
returns-in-152 c = at 8 _ 152 0x9a879fa0 c.in-152.is refl

pub returns-in-153 : goal.returns-in-153
unfolding bit_steps bit_step
returns-in-153 c = at 8 _ 153 0x68ec1ca3 c.in-153.is refl

pub returns-in-154 : goal.returns-in-154
unfolding bit_steps bit_step
returns-in-154 c = at 8 _ 154 0x7bbcef57 c.in-154.is refl

pub returns-in-155 : goal.returns-in-155
unfolding bit_steps bit_step
returns-in-155 c = at 8 _ 155 0x89d76c54 c.in-155.is refl

pub returns-in-156 : goal.returns-in-156
unfolding bit_steps bit_step
returns-in-156 c = at 8 _ 156 0x5d1d08bf c.in-156.is refl

pub returns-in-157 : goal.returns-in-157
unfolding bit_steps bit_step
returns-in-157 c = at 8 _ 157 0xaf768bbc c.in-157.is refl

pub returns-in-158 : goal.returns-in-158
unfolding bit_steps bit_step
returns-in-158 c = at 8 _ 158 0xbc267848 c.in-158.is refl

pub returns-in-159 : goal.returns-in-159
unfolding bit_steps bit_step
returns-in-159 c = at 8 _ 159 0x4e4dfb4b c.in-159.is refl

pub returns-in-160 : goal.returns-in-160
unfolding bit_steps bit_step
returns-in-160 c = at 8 _ 160 0x20bd8ede c.in-160.is refl

pub returns-in-161 : goal.returns-in-161
unfolding bit_steps bit_step
returns-in-161 c = at 8 _ 161 0xd2d60ddd c.in-161.is refl

pub returns-in-162 : goal.returns-in-162
unfolding bit_steps bit_step
returns-in-162 c = at 8 _ 162 0xc186fe29 c.in-162.is refl

pub returns-in-163 : goal.returns-in-163
unfolding bit_steps bit_step
returns-in-163 c = at 8 _ 163 0x33ed7d2a c.in-163.is refl

pub returns-in-164 : goal.returns-in-164
unfolding bit_steps bit_step
returns-in-164 c = at 8 _ 164 0xe72719c1 c.in-164.is refl

pub returns-in-165 : goal.returns-in-165
unfolding bit_steps bit_step
returns-in-165 c = at 8 _ 165 0x154c9ac2 c.in-165.is refl

pub returns-in-166 : goal.returns-in-166
unfolding bit_steps bit_step
returns-in-166 c = at 8 _ 166 0x061c6936 c.in-166.is refl

pub returns-in-167 : goal.returns-in-167
unfolding bit_steps bit_step
returns-in-167 c = at 8 _ 167 0xf477ea35 c.in-167.is refl

pub returns-in-168 : goal.returns-in-168
unfolding bit_steps bit_step
returns-in-168 c = at 8 _ 168 0xaa64d611 c.in-168.is refl

pub returns-in-169 : goal.returns-in-169
unfolding bit_steps bit_step
returns-in-169 c = at 8 _ 169 0x580f5512 c.in-169.is refl

pub returns-in-170 : goal.returns-in-170
unfolding bit_steps bit_step
returns-in-170 c = at 8 _ 170 0x4b5fa6e6 c.in-170.is refl

pub returns-in-171 : goal.returns-in-171
unfolding bit_steps bit_step
returns-in-171 c = at 8 _ 171 0xb93425e5 c.in-171.is refl

pub returns-in-172 : goal.returns-in-172
unfolding bit_steps bit_step
returns-in-172 c = at 8 _ 172 0x6dfe410e c.in-172.is refl

pub returns-in-173 : goal.returns-in-173
unfolding bit_steps bit_step
returns-in-173 c = at 8 _ 173 0x9f95c20d c.in-173.is refl

pub returns-in-174 : goal.returns-in-174
unfolding bit_steps bit_step
returns-in-174 c = at 8 _ 174 0x8cc531f9 c.in-174.is refl

pub returns-in-175 : goal.returns-in-175
unfolding bit_steps bit_step
returns-in-175 c = at 8 _ 175 0x7eaeb2fa c.in-175.is refl

pub returns-in-176 : goal.returns-in-176
unfolding bit_steps bit_step
returns-in-176 c = at 8 _ 176 0x30e349b1 c.in-176.is refl

pub returns-in-177 : goal.returns-in-177
unfolding bit_steps bit_step
returns-in-177 c = at 8 _ 177 0xc288cab2 c.in-177.is refl

pub returns-in-178 : goal.returns-in-178
unfolding bit_steps bit_step
returns-in-178 c = at 8 _ 178 0xd1d83946 c.in-178.is refl

pub returns-in-179 : goal.returns-in-179
unfolding bit_steps bit_step
returns-in-179 c = at 8 _ 179 0x23b3ba45 c.in-179.is refl

pub returns-in-180 : goal.returns-in-180
unfolding bit_steps bit_step
returns-in-180 c = at 8 _ 180 0xf779deae c.in-180.is refl

pub returns-in-181 : goal.returns-in-181
unfolding bit_steps bit_step
returns-in-181 c = at 8 _ 181 0x05125dad c.in-181.is refl

pub returns-in-182 : goal.returns-in-182
unfolding bit_steps bit_step
returns-in-182 c = at 8 _ 182 0x1642ae59 c.in-182.is refl

pub returns-in-183 : goal.returns-in-183
unfolding bit_steps bit_step
returns-in-183 c = at 8 _ 183 0xe4292d5a c.in-183.is refl

pub returns-in-184 : goal.returns-in-184
unfolding bit_steps bit_step
returns-in-184 c = at 8 _ 184 0xba3a117e c.in-184.is refl

pub returns-in-185 : goal.returns-in-185
unfolding bit_steps bit_step
returns-in-185 c = at 8 _ 185 0x4851927d c.in-185.is refl

pub returns-in-186 : goal.returns-in-186
unfolding bit_steps bit_step
returns-in-186 c = at 8 _ 186 0x5b016189 c.in-186.is refl

pub returns-in-187 : goal.returns-in-187
unfolding bit_steps bit_step
returns-in-187 c = at 8 _ 187 0xa96ae28a c.in-187.is refl

pub returns-in-188 : goal.returns-in-188
unfolding bit_steps bit_step
returns-in-188 c = at 8 _ 188 0x7da08661 c.in-188.is refl

pub returns-in-189 : goal.returns-in-189
unfolding bit_steps bit_step
returns-in-189 c = at 8 _ 189 0x8fcb0562 c.in-189.is refl

pub returns-in-190 : goal.returns-in-190
unfolding bit_steps bit_step
returns-in-190 c = at 8 _ 190 0x9c9bf696 c.in-190.is refl

pub returns-in-191 : goal.returns-in-191
unfolding bit_steps bit_step
returns-in-191 c = at 8 _ 191 0x6ef07595 c.in-191.is refl

pub returns-in-192 : goal.returns-in-192
unfolding bit_steps bit_step
returns-in-192 c = at 8 _ 192 0x417b1dbc c.in-192.is refl

pub returns-in-193 : goal.returns-in-193
unfolding bit_steps bit_step
returns-in-193 c = at 8 _ 193 0xb3109ebf c.in-193.is refl

pub returns-in-194 : goal.returns-in-194
unfolding bit_steps bit_step
returns-in-194 c = at 8 _ 194 0xa0406d4b c.in-194.is refl

pub returns-in-195 : goal.returns-in-195
unfolding bit_steps bit_step
returns-in-195 c = at 8 _ 195 0x522bee48 c.in-195.is refl

pub returns-in-196 : goal.returns-in-196
unfolding bit_steps bit_step
returns-in-196 c = at 8 _ 196 0x86e18aa3 c.in-196.is refl

pub returns-in-197 : goal.returns-in-197
unfolding bit_steps bit_step
returns-in-197 c = at 8 _ 197 0x748a09a0 c.in-197.is refl

pub returns-in-198 : goal.returns-in-198
unfolding bit_steps bit_step
returns-in-198 c = at 8 _ 198 0x67dafa54 c.in-198.is refl

pub returns-in-199 : goal.returns-in-199
unfolding bit_steps bit_step
returns-in-199 c = at 8 _ 199 0x95b17957 c.in-199.is refl

pub returns-in-200 : goal.returns-in-200
unfolding bit_steps bit_step
returns-in-200 c = at 8 _ 200 0xcba24573 c.in-200.is refl

pub returns-in-201 : goal.returns-in-201
unfolding bit_steps bit_step
returns-in-201 c = at 8 _ 201 0x39c9c670 c.in-201.is refl

pub returns-in-202 : goal.returns-in-202
unfolding bit_steps bit_step
returns-in-202 c = at 8 _ 202 0x2a993584 c.in-202.is refl

pub returns-in-203 : goal.returns-in-203
unfolding bit_steps bit_step
returns-in-203 c = at 8 _ 203 0xd8f2b687 c.in-203.is refl

pub returns-in-204 : goal.returns-in-204
unfolding bit_steps bit_step
returns-in-204 c = at 8 _ 204 0x0c38d26c c.in-204.is refl

pub returns-in-205 : goal.returns-in-205
unfolding bit_steps bit_step
returns-in-205 c = at 8 _ 205 0xfe53516f c.in-205.is refl

pub returns-in-206 : goal.returns-in-206
unfolding bit_steps bit_step
returns-in-206 c = at 8 _ 206 0xed03a29b c.in-206.is refl

pub returns-in-207 : goal.returns-in-207
unfolding bit_steps bit_step
returns-in-207 c = at 8 _ 207 0x1f682198 c.in-207.is refl

pub returns-in-208 : goal.returns-in-208
unfolding bit_steps bit_step
returns-in-208 c = at 8 _ 208 0x5125dad3 c.in-208.is refl

pub returns-in-209 : goal.returns-in-209
unfolding bit_steps bit_step
returns-in-209 c = at 8 _ 209 0xa34e59d0 c.in-209.is refl

pub returns-in-210 : goal.returns-in-210
unfolding bit_steps bit_step
returns-in-210 c = at 8 _ 210 0xb01eaa24 c.in-210.is refl

pub returns-in-211 : goal.returns-in-211
unfolding bit_steps bit_step
returns-in-211 c = at 8 _ 211 0x42752927 c.in-211.is refl

pub returns-in-212 : goal.returns-in-212
unfolding bit_steps bit_step
returns-in-212 c = at 8 _ 212 0x96bf4dcc c.in-212.is refl

pub returns-in-213 : goal.returns-in-213
unfolding bit_steps bit_step
returns-in-213 c = at 8 _ 213 0x64d4cecf c.in-213.is refl

pub returns-in-214 : goal.returns-in-214
unfolding bit_steps bit_step
returns-in-214 c = at 8 _ 214 0x77843d3b c.in-214.is refl

pub returns-in-215 : goal.returns-in-215
unfolding bit_steps bit_step
returns-in-215 c = at 8 _ 215 0x85efbe38 c.in-215.is refl

pub returns-in-216 : goal.returns-in-216
unfolding bit_steps bit_step
returns-in-216 c = at 8 _ 216 0xdbfc821c c.in-216.is refl

pub returns-in-217 : goal.returns-in-217
unfolding bit_steps bit_step
returns-in-217 c = at 8 _ 217 0x2997011f c.in-217.is refl

pub returns-in-218 : goal.returns-in-218
unfolding bit_steps bit_step
returns-in-218 c = at 8 _ 218 0x3ac7f2eb c.in-218.is refl

pub returns-in-219 : goal.returns-in-219
unfolding bit_steps bit_step
returns-in-219 c = at 8 _ 219 0xc8ac71e8 c.in-219.is refl

pub returns-in-220 : goal.returns-in-220
unfolding bit_steps bit_step
returns-in-220 c = at 8 _ 220 0x1c661503 c.in-220.is refl

pub returns-in-221 : goal.returns-in-221
unfolding bit_steps bit_step
returns-in-221 c = at 8 _ 221 0xee0d9600 c.in-221.is refl

pub returns-in-222 : goal.returns-in-222
unfolding bit_steps bit_step
returns-in-222 c = at 8 _ 222 0xfd5d65f4 c.in-222.is refl

pub returns-in-223 : goal.returns-in-223
unfolding bit_steps bit_step
returns-in-223 c = at 8 _ 223 0x0f36e6f7 c.in-223.is refl

pub returns-in-224 : goal.returns-in-224
unfolding bit_steps bit_step
returns-in-224 c = at 8 _ 224 0x61c69362 c.in-224.is refl

pub returns-in-225 : goal.returns-in-225
unfolding bit_steps bit_step
returns-in-225 c = at 8 _ 225 0x93ad1061 c.in-225.is refl

pub returns-in-226 : goal.returns-in-226
unfolding bit_steps bit_step
returns-in-226 c = at 8 _ 226 0x80fde395 c.in-226.is refl

pub returns-in-227 : goal.returns-in-227
unfolding bit_steps bit_step
returns-in-227 c = at 8 _ 227 0x72966096 c.in-227.is refl

pub returns-in-228 : goal.returns-in-228
unfolding bit_steps bit_step
returns-in-228 c = at 8 _ 228 0xa65c047d c.in-228.is refl

pub returns-in-229 : goal.returns-in-229
unfolding bit_steps bit_step
returns-in-229 c = at 8 _ 229 0x5437877e c.in-229.is refl

pub returns-in-230 : goal.returns-in-230
unfolding bit_steps bit_step
returns-in-230 c = at 8 _ 230 0x4767748a c.in-230.is refl

pub returns-in-231 : goal.returns-in-231
unfolding bit_steps bit_step
returns-in-231 c = at 8 _ 231 0xb50cf789 c.in-231.is refl

pub returns-in-232 : goal.returns-in-232
unfolding bit_steps bit_step
returns-in-232 c = at 8 _ 232 0xeb1fcbad c.in-232.is refl

pub returns-in-233 : goal.returns-in-233
unfolding bit_steps bit_step
returns-in-233 c = at 8 _ 233 0x197448ae c.in-233.is refl

pub returns-in-234 : goal.returns-in-234
unfolding bit_steps bit_step
returns-in-234 c = at 8 _ 234 0x0a24bb5a c.in-234.is refl

pub returns-in-235 : goal.returns-in-235
unfolding bit_steps bit_step
returns-in-235 c = at 8 _ 235 0xf84f3859 c.in-235.is refl

pub returns-in-236 : goal.returns-in-236
unfolding bit_steps bit_step
returns-in-236 c = at 8 _ 236 0x2c855cb2 c.in-236.is refl

pub returns-in-237 : goal.returns-in-237
unfolding bit_steps bit_step
returns-in-237 c = at 8 _ 237 0xdeeedfb1 c.in-237.is refl

pub returns-in-238 : goal.returns-in-238
unfolding bit_steps bit_step
returns-in-238 c = at 8 _ 238 0xcdbe2c45 c.in-238.is refl

pub returns-in-239 : goal.returns-in-239
unfolding bit_steps bit_step
returns-in-239 c = at 8 _ 239 0x3fd5af46 c.in-239.is refl

pub returns-in-240 : goal.returns-in-240
unfolding bit_steps bit_step
returns-in-240 c = at 8 _ 240 0x7198540d c.in-240.is refl

pub returns-in-241 : goal.returns-in-241
unfolding bit_steps bit_step
returns-in-241 c = at 8 _ 241 0x83f3d70e c.in-241.is refl

pub returns-in-242 : goal.returns-in-242
unfolding bit_steps bit_step
returns-in-242 c = at 8 _ 242 0x90a324fa c.in-242.is refl

pub returns-in-243 : goal.returns-in-243
unfolding bit_steps bit_step
returns-in-243 c = at 8 _ 243 0x62c8a7f9 c.in-243.is refl

pub returns-in-244 : goal.returns-in-244
unfolding bit_steps bit_step
returns-in-244 c = at 8 _ 244 0xb602c312 c.in-244.is refl

pub returns-in-245 : goal.returns-in-245
unfolding bit_steps bit_step
returns-in-245 c = at 8 _ 245 0x44694011 c.in-245.is refl

pub returns-in-246 : goal.returns-in-246
unfolding bit_steps bit_step
returns-in-246 c = at 8 _ 246 0x5739b3e5 c.in-246.is refl

pub returns-in-247 : goal.returns-in-247
unfolding bit_steps bit_step
returns-in-247 c = at 8 _ 247 0xa55230e6 c.in-247.is refl

pub returns-in-248 : goal.returns-in-248
unfolding bit_steps bit_step
returns-in-248 c = at 8 _ 248 0xfb410cc2 c.in-248.is refl

pub returns-in-249 : goal.returns-in-249
unfolding bit_steps bit_step
returns-in-249 c = at 8 _ 249 0x092a8fc1 c.in-249.is refl

pub returns-in-250 : goal.returns-in-250
unfolding bit_steps bit_step
returns-in-250 c = at 8 _ 250 0x1a7a7c35 c.in-250.is refl

pub returns-in-251 : goal.returns-in-251
unfolding bit_steps bit_step
returns-in-251 c = at 8 _ 251 0xe811ff36 c.in-251.is refl

pub returns-in-252 : goal.returns-in-252
unfolding bit_steps bit_step
returns-in-252 c = at 8 _ 252 0x3cdb9bdd c.in-252.is refl

pub returns-in-253 : goal.returns-in-253
unfolding bit_steps bit_step
returns-in-253 c = at 8 _ 253 0xceb018de c.in-253.is refl

pub returns-in-254 : goal.returns-in-254
unfolding bit_steps bit_step
returns-in-254 c = at 8 _ 254 0xdde0eb2a c.in-254.is refl

pub returns-in_default : goal.returns-in_default
unfolding bit_steps bit_step
returns-in_default c = let e : c.args.n ≡ 255 = omega arith in at 8 _ 255 0x2f8b6829 e refl
