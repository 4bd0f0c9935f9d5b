-- Made by tools/rows, which says how and why; the gate makes it anew and compares.
use Rattle.std.proofs.Common.{◌≡◌, refl, arith}
use Rattle.crc32c_format.specs.Crc.{bit_steps, bit_step}
use Rattle.crc32c_rows_first.proofs.Literal.{at}
use Rattle.crc32c_rows_first.proofs.row3.Goals as goal

pub returns-in-0 : goal.returns-in-0
unfolding bit_steps bit_step
returns-in-0 c = at 32 _ 0 0x52a0c93f c.in-0.is refl

pub returns-in-1 : goal.returns-in-1
unfolding bit_steps bit_step
returns-in-1 c = at 32 _ 1 0x8fe56387 c.in-1.is refl

pub returns-in-2 : goal.returns-in-2
unfolding bit_steps bit_step
returns-in-2 c = at 32 _ 2 0xedc7eabe c.in-2.is refl

pub returns-in-3 : goal.returns-in-3
unfolding bit_steps bit_step
returns-in-3 c = at 32 _ 3 0x30824006 c.in-3.is refl

pub returns-in-4 : goal.returns-in-4
unfolding bit_steps bit_step
returns-in-4 c = at 32 _ 4 0x2982f8cc c.in-4.is refl

pub returns-in-5 : goal.returns-in-5
unfolding bit_steps bit_step
returns-in-5 c = at 32 _ 5 0xf4c75274 c.in-5.is refl

pub returns-in-6 : goal.returns-in-6
unfolding bit_steps bit_step
returns-in-6 c = at 32 _ 6 0x96e5db4d c.in-6.is refl

pub returns-in-7 : goal.returns-in-7
unfolding bit_steps bit_step
returns-in-7 c = at 32 _ 7 0x4ba071f5 c.in-7.is refl

pub returns-in-8 : goal.returns-in-8
unfolding bit_steps bit_step
returns-in-8 c = at 32 _ 8 0xa4e4aad9 c.in-8.is refl

pub returns-in-9 : goal.returns-in-9
unfolding bit_steps bit_step
returns-in-9 c = at 32 _ 9 0x79a10061 c.in-9.is refl

pub returns-in-10 : goal.returns-in-10
unfolding bit_steps bit_step
returns-in-10 c = at 32 _ 10 0x1b838958 c.in-10.is refl

pub returns-in-11 : goal.returns-in-11
unfolding bit_steps bit_step
returns-in-11 c = at 32 _ 11 0xc6c623e0 c.in-11.is refl

pub returns-in-12 : goal.returns-in-12
unfolding bit_steps bit_step
returns-in-12 c = at 32 _ 12 0xdfc69b2a c.in-12.is refl

pub returns-in-13 : goal.returns-in-13
unfolding bit_steps bit_step
returns-in-13 c = at 32 _ 13 0x02833192 c.in-13.is refl

pub returns-in-14 : goal.returns-in-14
unfolding bit_steps bit_step
returns-in-14 c = at 32 _ 14 0x60a1b8ab c.in-14.is refl

pub returns-in-15 : goal.returns-in-15
unfolding bit_steps bit_step
returns-in-15 c = at 32 _ 15 0xbde41213 c.in-15.is refl

pub returns-in-16 : goal.returns-in-16
unfolding bit_steps bit_step
returns-in-16 c = at 32 _ 16 0xbbc47802 c.in-16.is refl

pub returns-in-17 : goal.returns-in-17
unfolding bit_steps bit_step
returns-in-17 c = at 32 _ 17 0x6681d2ba c.in-17.is refl

pub returns-in-18 : goal.returns-in-18
unfolding bit_steps bit_step
returns-in-18 c = at 32 _ 18 0x04a35b83 c.in-18.is refl

pub returns-in-19 : goal.returns-in-19
unfolding bit_steps bit_step
returns-in-19 c = at 32 _ 19 0xd9e6f13b c.in-19.is refl

pub returns-in-20 : goal.returns-in-20
unfolding bit_steps bit_step
returns-in-20 c = at 32 _ 20 0xc0e649f1 c.in-20.is refl

pub returns-in-21 : goal.returns-in-21
unfolding bit_steps bit_step
returns-in-21 c = at 32 _ 21 0x1da3e349 c.in-21.is refl

pub returns-in-22 : goal.returns-in-22
unfolding bit_steps bit_step
returns-in-22 c = at 32 _ 22 0x7f816a70 c.in-22.is refl

pub returns-in-23 : goal.returns-in-23
unfolding bit_steps bit_step
returns-in-23 c = at 32 _ 23 0xa2c4c0c8 c.in-23.is refl

pub returns-in-24 : goal.returns-in-24
unfolding bit_steps bit_step
returns-in-24 c = at 32 _ 24 0x4d801be4 c.in-24.is refl

pub returns-in-25 : goal.returns-in-25
unfolding bit_steps bit_step
returns-in-25 c = at 32 _ 25 0x90c5b15c c.in-25.is refl

pub returns-in-26 : goal.returns-in-26
unfolding bit_steps bit_step
returns-in-26 c = at 32 _ 26 0xf2e73865 c.in-26.is refl

pub returns-in-27 : goal.returns-in-27
unfolding bit_steps bit_step
returns-in-27 c = at 32 _ 27 0x2fa292dd c.in-27.is refl

pub returns-in-28 : goal.returns-in-28
unfolding bit_steps bit_step
returns-in-28 c = at 32 _ 28 0x36a22a17 c.in-28.is refl

pub returns-in-29 : goal.returns-in-29
unfolding bit_steps bit_step
returns-in-29 c = at 32 _ 29 0xebe780af c.in-29.is refl

pub returns-in-30 : goal.returns-in-30
unfolding bit_steps bit_step
returns-in-30 c = at 32 _ 30 0x89c50996 c.in-30.is refl

pub returns-in-31 : goal.returns-in-31
unfolding bit_steps bit_step
returns-in-31 c = at 32 _ 31 0x5480a32e c.in-31.is refl

pub returns-in-32 : goal.returns-in-32
unfolding bit_steps bit_step
returns-in-32 c = at 32 _ 32 0x8585ddb4 c.in-32.is refl

pub returns-in-33 : goal.returns-in-33
unfolding bit_steps bit_step
returns-in-33 c = at 32 _ 33 0x58c0770c c.in-33.is refl

pub returns-in-34 : goal.returns-in-34
unfolding bit_steps bit_step
returns-in-34 c = at 32 _ 34 0x3ae2fe35 c.in-34.is refl

pub returns-in-35 : goal.returns-in-35
unfolding bit_steps bit_step
returns-in-35 c = at 32 _ 35 0xe7a7548d c.in-35.is refl

pub returns-in-36 : goal.returns-in-36
unfolding bit_steps bit_step
returns-in-36 c = at 32 _ 36 0xfea7ec47 c.in-36.is refl

pub returns-in-37 : goal.returns-in-37
unfolding bit_steps bit_step
returns-in-37 c = at 32 _ 37 0x23e246ff c.in-37.is refl

pub returns-in-38 : goal.returns-in-38
unfolding bit_steps bit_step
returns-in-38 c = at 32 _ 38 0x41c0cfc6 c.in-38.is refl

pub returns-in-39 : goal.returns-in-39
unfolding bit_steps bit_step
returns-in-39 c = at 32 _ 39 0x9c85657e c.in-39.is refl

pub returns-in-40 : goal.returns-in-40
unfolding bit_steps bit_step
returns-in-40 c = at 32 _ 40 0x73c1be52 c.in-40.is refl

pub returns-in-41 : goal.returns-in-41
unfolding bit_steps bit_step
returns-in-41 c = at 32 _ 41 0xae8414ea c.in-41.is refl

pub returns-in-42 : goal.returns-in-42
unfolding bit_steps bit_step
returns-in-42 c = at 32 _ 42 0xcca69dd3 c.in-42.is refl

pub returns-in-43 : goal.returns-in-43
unfolding bit_steps bit_step
returns-in-43 c = at 32 _ 43 0x11e3376b c.in-43.is refl

pub returns-in-44 : goal.returns-in-44
unfolding bit_steps bit_step
returns-in-44 c = at 32 _ 44 0x08e38fa1 c.in-44.is refl

pub returns-in-45 : goal.returns-in-45
unfolding bit_steps bit_step
returns-in-45 c = at 32 _ 45 0xd5a62519 c.in-45.is refl

pub returns-in-46 : goal.returns-in-46
unfolding bit_steps bit_step
returns-in-46 c = at 32 _ 46 0xb784ac20 c.in-46.is refl

pub returns-in-47 : goal.returns-in-47
unfolding bit_steps bit_step
returns-in-47 c = at 32 _ 47 0x6ac10698 c.in-47.is refl

pub returns-in-48 : goal.returns-in-48
unfolding bit_steps bit_step
returns-in-48 c = at 32 _ 48 0x6ce16c89 c.in-48.is refl

pub returns-in-49 : goal.returns-in-49
unfolding bit_steps bit_step
returns-in-49 c = at 32 _ 49 0xb1a4c631 c.in-49.is refl

pub returns-in-50 : goal.returns-in-50
unfolding bit_steps bit_step
returns-in-50 c = at 32 _ 50 0xd3864f08 c.in-50.is refl

pub returns-in-51 : goal.returns-in-51
unfolding bit_steps bit_step
returns-in-51 c = at 32 _ 51 0x0ec3e5b0 c.in-51.is refl

pub returns-in-52 : goal.returns-in-52
unfolding bit_steps bit_step
returns-in-52 c = at 32 _ 52 0x17c35d7a c.in-52.is refl

pub returns-in-53 : goal.returns-in-53
unfolding bit_steps bit_step
returns-in-53 c = at 32 _ 53 0xca86f7c2 c.in-53.is refl

pub returns-in-54 : goal.returns-in-54
unfolding bit_steps bit_step
returns-in-54 c = at 32 _ 54 0xa8a47efb c.in-54.is refl

pub returns-in-55 : goal.returns-in-55
unfolding bit_steps bit_step
returns-in-55 c = at 32 _ 55 0x75e1d443 c.in-55.is refl

pub returns-in-56 : goal.returns-in-56
unfolding bit_steps bit_step
returns-in-56 c = at 32 _ 56 0x9aa50f6f c.in-56.is refl

pub returns-in-57 : goal.returns-in-57
unfolding bit_steps bit_step
returns-in-57 c = at 32 _ 57 0x47e0a5d7 c.in-57.is refl

pub returns-in-58 : goal.returns-in-58
unfolding bit_steps bit_step
returns-in-58 c = at 32 _ 58 0x25c22cee c.in-58.is refl

pub returns-in-59 : goal.returns-in-59
unfolding bit_steps bit_step
returns-in-59 c = at 32 _ 59 0xf8878656 c.in-59.is refl

pub returns-in-60 : goal.returns-in-60
unfolding bit_steps bit_step
returns-in-60 c = at 32 _ 60 0xe1873e9c c.in-60.is refl

pub returns-in-61 : goal.returns-in-61
unfolding bit_steps bit_step
returns-in-61 c = at 32 _ 61 0x3cc29424 c.in-61.is refl

pub returns-in-62 : goal.returns-in-62
unfolding bit_steps bit_step
returns-in-62 c = at 32 _ 62 0x5ee01d1d c.in-62.is refl

pub returns-in-63 : goal.returns-in-63
unfolding bit_steps bit_step
returns-in-63 c = at 32 _ 63 0x83a5b7a5 c.in-63.is refl

pub returns-in-64 : goal.returns-in-64
unfolding bit_steps bit_step
returns-in-64 c = at 32 _ 64 0xf90696d8 c.in-64.is refl

pub returns-in-65 : goal.returns-in-65
unfolding bit_steps bit_step
returns-in-65 c = at 32 _ 65 0x24433c60 c.in-65.is refl

pub returns-in-66 : goal.returns-in-66
unfolding bit_steps bit_step
returns-in-66 c = at 32 _ 66 0x4661b559 c.in-66.is refl

pub returns-in-67 : goal.returns-in-67
unfolding bit_steps bit_step
returns-in-67 c = at 32 _ 67 0x9b241fe1 c.in-67.is refl

pub returns-in-68 : goal.returns-in-68
unfolding bit_steps bit_step
returns-in-68 c = at 32 _ 68 0x8224a72b c.in-68.is refl

pub returns-in-69 : goal.returns-in-69
unfolding bit_steps bit_step
returns-in-69 c = at 32 _ 69 0x5f610d93 c.in-69.is refl

pub returns-in-70 : goal.returns-in-70
unfolding bit_steps bit_step
returns-in-70 c = at 32 _ 70 0x3d4384aa c.in-70.is refl

pub returns-in-71 : goal.returns-in-71
unfolding bit_steps bit_step
returns-in-71 c = at 32 _ 71 0xe0062e12 c.in-71.is refl

pub returns-in-72 : goal.returns-in-72
unfolding bit_steps bit_step
returns-in-72 c = at 32 _ 72 0x0f42f53e c.in-72.is refl

pub returns-in-73 : goal.returns-in-73
unfolding bit_steps bit_step
returns-in-73 c = at 32 _ 73 0xd2075f86 c.in-73.is refl

pub returns-in-74 : goal.returns-in-74
unfolding bit_steps bit_step
returns-in-74 c = at 32 _ 74 0xb025d6bf c.in-74.is refl

pub returns-in-75 : goal.returns-in-75
unfolding bit_steps bit_step
returns-in-75 c = at 32 _ 75 0x6d607c07 c.in-75.is refl

pub returns-in-76 : goal.returns-in-76
unfolding bit_steps bit_step
returns-in-76 c = at 32 _ 76 0x7460c4cd c.in-76.is refl

pub returns-in-77 : goal.returns-in-77
unfolding bit_steps bit_step
returns-in-77 c = at 32 _ 77 0xa9256e75 c.in-77.is refl

pub returns-in-78 : goal.returns-in-78
unfolding bit_steps bit_step
returns-in-78 c = at 32 _ 78 0xcb07e74c c.in-78.is refl

pub returns-in-79 : goal.returns-in-79
unfolding bit_steps bit_step
returns-in-79 c = at 32 _ 79 0x16424df4 c.in-79.is refl

pub returns-in-80 : goal.returns-in-80
unfolding bit_steps bit_step
returns-in-80 c = at 32 _ 80 0x106227e5 c.in-80.is refl

pub returns-in-81 : goal.returns-in-81
unfolding bit_steps bit_step
returns-in-81 c = at 32 _ 81 0xcd278d5d c.in-81.is refl

pub returns-in-82 : goal.returns-in-82
unfolding bit_steps bit_step
returns-in-82 c = at 32 _ 82 0xaf050464 c.in-82.is refl

pub returns-in-83 : goal.returns-in-83
unfolding bit_steps bit_step
returns-in-83 c = at 32 _ 83 0x7240aedc c.in-83.is refl

pub returns-in-84 : goal.returns-in-84
unfolding bit_steps bit_step
returns-in-84 c = at 32 _ 84 0x6b401616 c.in-84.is refl

pub returns-in-85 : goal.returns-in-85
unfolding bit_steps bit_step
returns-in-85 c = at 32 _ 85 0xb605bcae c.in-85.is refl

pub returns-in-86 : goal.returns-in-86
unfolding bit_steps bit_step
returns-in-86 c = at 32 _ 86 0xd4273597 c.in-86.is refl

pub returns-in-87 : goal.returns-in-87
unfolding bit_steps bit_step
returns-in-87 c = at 32 _ 87 0x09629f2f c.in-87.is refl

pub returns-in-88 : goal.returns-in-88
unfolding bit_steps bit_step
returns-in-88 c = at 32 _ 88 0xe6264403 c.in-88.is refl

pub returns-in-89 : goal.returns-in-89
unfolding bit_steps bit_step
returns-in-89 c = at 32 _ 89 0x3b63eebb c.in-89.is refl

pub returns-in-90 : goal.returns-in-90
unfolding bit_steps bit_step
returns-in-90 c = at 32 _ 90 0x59416782 c.in-90.is refl

pub returns-in-91 : goal.returns-in-91
unfolding bit_steps bit_step
returns-in-91 c = at 32 _ 91 0x8404cd3a c.in-91.is refl

pub returns-in-92 : goal.returns-in-92
unfolding bit_steps bit_step
returns-in-92 c = at 32 _ 92 0x9d0475f0 c.in-92.is refl

pub returns-in-93 : goal.returns-in-93
unfolding bit_steps bit_step
returns-in-93 c = at 32 _ 93 0x4041df48 c.in-93.is refl

pub returns-in-94 : goal.returns-in-94
unfolding bit_steps bit_step
returns-in-94 c = at 32 _ 94 0x22635671 c.in-94.is refl

pub returns-in-95 : goal.returns-in-95
unfolding bit_steps bit_step
returns-in-95 c = at 32 _ 95 0xff26fcc9 c.in-95.is refl

pub returns-in-96 : goal.returns-in-96
unfolding bit_steps bit_step
returns-in-96 c = at 32 _ 96 0x2e238253 c.in-96.is refl

pub returns-in-97 : goal.returns-in-97
unfolding bit_steps bit_step
returns-in-97 c = at 32 _ 97 0xf36628eb c.in-97.is refl

pub returns-in-98 : goal.returns-in-98
unfolding bit_steps bit_step
returns-in-98 c = at 32 _ 98 0x9144a1d2 c.in-98.is refl

pub returns-in-99 : goal.returns-in-99
unfolding bit_steps bit_step
returns-in-99 c = at 32 _ 99 0x4c010b6a c.in-99.is refl

pub returns-in-100 : goal.returns-in-100
unfolding bit_steps bit_step
returns-in-100 c = at 32 _ 100 0x5501b3a0 c.in-100.is refl

pub returns-in-101 : goal.returns-in-101
unfolding bit_steps bit_step
returns-in-101 c = at 32 _ 101 0x88441918 c.in-101.is refl

pub returns-in-102 : goal.returns-in-102
unfolding bit_steps bit_step
returns-in-102 c = at 32 _ 102 0xea669021 c.in-102.is refl

pub returns-in-103 : goal.returns-in-103
unfolding bit_steps bit_step
returns-in-103 c = at 32 _ 103 0x37233a99 c.in-103.is refl

pub returns-in-104 : goal.returns-in-104
unfolding bit_steps bit_step
returns-in-104 c = at 32 _ 104 0xd867e1b5 c.in-104.is refl

pub returns-in-105 : goal.returns-in-105
unfolding bit_steps bit_step
returns-in-105 c = at 32 _ 105 0x05224b0d c.in-105.is refl

pub returns-in-106 : goal.returns-in-106
unfolding bit_steps bit_step
returns-in-106 c = at 32 _ 106 0x6700c234 c.in-106.is refl

pub returns-in-107 : goal.returns-in-107
unfolding bit_steps bit_step
returns-in-107 c = at 32 _ 107 0xba45688c c.in-107.is refl

pub returns-in-108 : goal.returns-in-108
unfolding bit_steps bit_step
returns-in-108 c = at 32 _ 108 0xa345d046 c.in-108.is refl

pub returns-in-109 : goal.returns-in-109
unfolding bit_steps bit_step
returns-in-109 c = at 32 _ 109 0x7e007afe c.in-109.is refl

pub returns-in-110 : goal.returns-in-110
unfolding bit_steps bit_step
returns-in-110 c = at 32 _ 110 0x1c22f3c7 c.in-110.is refl

pub returns-in-111 : goal.returns-in-111
unfolding bit_steps bit_step
returns-in-111 c = at 32 _ 111 0xc167597f c.in-111.is refl

pub returns-in-112 : goal.returns-in-112
unfolding bit_steps bit_step
returns-in-112 c = at 32 _ 112 0xc747336e c.in-112.is refl

pub returns-in-113 : goal.returns-in-113
unfolding bit_steps bit_step
returns-in-113 c = at 32 _ 113 0x1a0299d6 c.in-113.is refl

pub returns-in-114 : goal.returns-in-114
unfolding bit_steps bit_step
returns-in-114 c = at 32 _ 114 0x782010ef c.in-114.is refl

pub returns-in-115 : goal.returns-in-115
unfolding bit_steps bit_step
returns-in-115 c = at 32 _ 115 0xa565ba57 c.in-115.is refl

pub returns-in-116 : goal.returns-in-116
unfolding bit_steps bit_step
returns-in-116 c = at 32 _ 116 0xbc65029d c.in-116.is refl

pub returns-in-117 : goal.returns-in-117
unfolding bit_steps bit_step
returns-in-117 c = at 32 _ 117 0x6120a825 c.in-117.is refl

pub returns-in-118 : goal.returns-in-118
unfolding bit_steps bit_step
returns-in-118 c = at 32 _ 118 0x0302211c c.in-118.is refl

pub returns-in-119 : goal.returns-in-119
unfolding bit_steps bit_step
returns-in-119 c = at 32 _ 119 0xde478ba4 c.in-119.is refl

pub returns-in-120 : goal.returns-in-120
unfolding bit_steps bit_step
returns-in-120 c = at 32 _ 120 0x31035088 c.in-120.is refl

pub returns-in-121 : goal.returns-in-121
unfolding bit_steps bit_step
returns-in-121 c = at 32 _ 121 0xec46fa30 c.in-121.is refl

pub returns-in-122 : goal.returns-in-122
unfolding bit_steps bit_step
returns-in-122 c = at 32 _ 122 0x8e647309 c.in-122.is refl

pub returns-in-123 : goal.returns-in-123
unfolding bit_steps bit_step
returns-in-123 c = at 32 _ 123 0x5321d9b1 c.in-123.is refl

pub returns-in-124 : goal.returns-in-124
unfolding bit_steps bit_step
returns-in-124 c = at 32 _ 124 0x4a21617b c.in-124.is refl

pub returns-in-125 : goal.returns-in-125
unfolding bit_steps bit_step
returns-in-125 c = at 32 _ 125 0x9764cbc3 c.in-125.is refl

pub returns-in-126 : goal.returns-in-126
unfolding bit_steps bit_step
returns-in-126 c = at 32 _ 126 0xf54642fa c.in-126.is refl

pub returns-in-127 : goal.returns-in-127
unfolding bit_steps bit_step
returns-in-127 c = at 32 _ 127 0x2803e842 c.in-127.is refl

pub returns-in-128 : goal.returns-in-128
unfolding bit_steps bit_step
returns-in-128 c = at 32 _ 128 0x00000000 c.in-128.is refl

pub returns-in-129 : goal.returns-in-129
unfolding bit_steps bit_step
returns-in-129 c = at 32 _ 129 0xdd45aab8 c.in-129.is refl

pub returns-in-130 : goal.returns-in-130
unfolding bit_steps bit_step
returns-in-130 c = at 32 _ 130 0xbf672381 c.in-130.is refl

pub returns-in-131 : goal.returns-in-131
unfolding bit_steps bit_step
returns-in-131 c = at 32 _ 131 0x62228939 c.in-131.is refl

pub returns-in-132 : goal.returns-in-132
unfolding bit_steps bit_step
returns-in-132 c = at 32 _ 132 0x7b2231f3 c.in-132.is refl

pub returns-in-133 : goal.returns-in-133
unfolding bit_steps bit_step
returns-in-133 c = at 32 _ 133 0xa6679b4b c.in-133.is refl

pub returns-in-134 : goal.returns-in-134
unfolding bit_steps bit_step
returns-in-134 c = at 32 _ 134 0xc4451272 c.in-134.is refl

pub returns-in-135 : goal.returns-in-135
unfolding bit_steps bit_step
returns-in-135 c = at 32 _ 135 0x1900b8ca c.in-135.is refl

pub returns-in-136 : goal.returns-in-136
unfolding bit_steps bit_step
returns-in-136 c = at 32 _ 136 0xf64463e6 c.in-136.is refl

pub returns-in-137 : goal.returns-in-137
unfolding bit_steps bit_step
returns-in-137 c = at 32 _ 137 0x2b01c95e c.in-137.is refl

pub returns-in-138 : goal.returns-in-138
unfolding bit_steps bit_step
returns-in-138 c = at 32 _ 138 0x49234067 c.in-138.is refl

pub returns-in-139 : goal.returns-in-139
unfolding bit_steps bit_step
returns-in-139 c = at 32 _ 139 0x9466eadf c.in-139.is refl

pub returns-in-140 : goal.returns-in-140
unfolding bit_steps bit_step
returns-in-140 c = at 32 _ 140 0x8d665215 c.in-140.is refl

pub returns-in-141 : goal.returns-in-141
unfolding bit_steps bit_step
returns-in-141 c = at 32 _ 141 0x5023f8ad c.in-141.is refl

pub returns-in-142 : goal.returns-in-142
unfolding bit_steps bit_step
returns-in-142 c = at 32 _ 142 0x32017194 c.in-142.is refl

pub returns-in-143 : goal.returns-in-143
unfolding bit_steps bit_step
returns-in-143 c = at 32 _ 143 0xef44db2c c.in-143.is refl

pub returns-in-144 : goal.returns-in-144
unfolding bit_steps bit_step
returns-in-144 c = at 32 _ 144 0xe964b13d c.in-144.is refl

pub returns-in-145 : goal.returns-in-145
unfolding bit_steps bit_step
returns-in-145 c = at 32 _ 145 0x34211b85 c.in-145.is refl

pub returns-in-146 : goal.returns-in-146
unfolding bit_steps bit_step
returns-in-146 c = at 32 _ 146 0x560392bc c.in-146.is refl

pub returns-in-147 : goal.returns-in-147
unfolding bit_steps bit_step
returns-in-147 c = at 32 _ 147 0x8b463804 c.in-147.is refl

pub returns-in-148 : goal.returns-in-148
unfolding bit_steps bit_step
returns-in-148 c = at 32 _ 148 0x924680ce c.in-148.is refl

pub returns-in-149 : goal.returns-in-149
unfolding bit_steps bit_step
returns-in-149 c = at 32 _ 149 0x4f032a76 c.in-149.is refl

pub returns-in-150 : goal.returns-in-150
unfolding bit_steps bit_step
returns-in-150 c = at 32 _ 150 0x2d21a34f c.in-150.is refl

pub returns-in-151 : goal.returns-in-151
unfolding bit_steps bit_step
returns-in-151 c = at 32 _ 151 0xf06409f7 c.in-151.is refl

pub returns-in-152 : goal.returns-in-152
unfolding bit_steps bit_step
returns-in-152 c = at 32 _ 152 0x1f20d2db c.in-152.is refl

pub returns-in-153 : goal.returns-in-153
unfolding bit_steps bit_step
returns-in-153 c = at 32 _ 153 0xc2657863 c.in-153.is refl

pub returns-in-154 : goal.returns-in-154
unfolding bit_steps bit_step
returns-in-154 c = at 32 _ 154 0xa047f15a c.in-154.is refl

pub returns-in-155 : goal.returns-in-155
unfolding bit_steps bit_step
returns-in-155 c = at 32 _ 155 0x7d025be2 c.in-155.is refl

pub returns-in-156 : goal.returns-in-156
unfolding bit_steps bit_step
returns-in-156 c = at 32 _ 156 0x6402e328 c.in-156.is refl

pub returns-in-157 : goal.returns-in-157
unfolding bit_steps bit_step
returns-in-157 c = at 32 _ 157 0xb9474990 c.in-157.is refl

pub returns-in-158 : goal.returns-in-158
unfolding bit_steps bit_step
returns-in-158 c = at 32 _ 158 0xdb65c0a9 c.in-158.is refl

pub returns-in-159 : goal.returns-in-159
unfolding bit_steps bit_step
returns-in-159 c = at 32 _ 159 0x06206a11 c.in-159.is refl

pub returns-in-160 : goal.returns-in-160
unfolding bit_steps bit_step
returns-in-160 c = at 32 _ 160 0xd725148b c.in-160.is refl

pub returns-in-161 : goal.returns-in-161
unfolding bit_steps bit_step
returns-in-161 c = at 32 _ 161 0x0a60be33 c.in-161.is refl

pub returns-in-162 : goal.returns-in-162
unfolding bit_steps bit_step
returns-in-162 c = at 32 _ 162 0x6842370a c.in-162.is refl

pub returns-in-163 : goal.returns-in-163
unfolding bit_steps bit_step
returns-in-163 c = at 32 _ 163 0xb5079db2 c.in-163.is refl

pub returns-in-164 : goal.returns-in-164
unfolding bit_steps bit_step
returns-in-164 c = at 32 _ 164 0xac072578 c.in-164.is refl

pub returns-in-165 : goal.returns-in-165
unfolding bit_steps bit_step
returns-in-165 c = at 32 _ 165 0x71428fc0 c.in-165.is refl

pub returns-in-166 : goal.returns-in-166
unfolding bit_steps bit_step
returns-in-166 c = at 32 _ 166 0x136006f9 c.in-166.is refl

pub returns-in-167 : goal.returns-in-167
unfolding bit_steps bit_step
returns-in-167 c = at 32 _ 167 0xce25ac41 c.in-167.is refl

pub returns-in-168 : goal.returns-in-168
unfolding bit_steps bit_step
returns-in-168 c = at 32 _ 168 0x2161776d c.in-168.is refl

pub returns-in-169 : goal.returns-in-169
unfolding bit_steps bit_step
returns-in-169 c = at 32 _ 169 0xfc24ddd5 c.in-169.is refl

pub returns-in-170 : goal.returns-in-170
unfolding bit_steps bit_step
returns-in-170 c = at 32 _ 170 0x9e0654ec c.in-170.is refl

pub returns-in-171 : goal.returns-in-171
unfolding bit_steps bit_step
returns-in-171 c = at 32 _ 171 0x4343fe54 c.in-171.is refl

pub returns-in-172 : goal.returns-in-172
unfolding bit_steps bit_step
returns-in-172 c = at 32 _ 172 0x5a43469e c.in-172.is refl

pub returns-in-173 : goal.returns-in-173
unfolding bit_steps bit_step
returns-in-173 c = at 32 _ 173 0x8706ec26 c.in-173.is refl

pub returns-in-174 : goal.returns-in-174
unfolding bit_steps bit_step
returns-in-174 c = at 32 _ 174 0xe524651f c.in-174.is refl

pub returns-in-175 : goal.returns-in-175
unfolding bit_steps bit_step
returns-in-175 c = at 32 _ 175 0x3861cfa7 c.in-175.is refl

pub returns-in-176 : goal.returns-in-176
unfolding bit_steps bit_step
returns-in-176 c = at 32 _ 176 0x3e41a5b6 c.in-176.is refl

pub returns-in-177 : goal.returns-in-177
unfolding bit_steps bit_step
returns-in-177 c = at 32 _ 177 0xe3040f0e c.in-177.is refl

pub returns-in-178 : goal.returns-in-178
unfolding bit_steps bit_step
returns-in-178 c = at 32 _ 178 0x81268637 c.in-178.is refl

pub returns-in-179 : goal.returns-in-179
unfolding bit_steps bit_step
returns-in-179 c = at 32 _ 179 0x5c632c8f c.in-179.is refl

pub returns-in-180 : goal.returns-in-180
unfolding bit_steps bit_step
returns-in-180 c = at 32 _ 180 0x45639445 c.in-180.is refl

pub returns-in-181 : goal.returns-in-181
unfolding bit_steps bit_step
returns-in-181 c = at 32 _ 181 0x98263efd c.in-181.is refl

pub returns-in-182 : goal.returns-in-182
unfolding bit_steps bit_step
returns-in-182 c = at 32 _ 182 0xfa04b7c4 c.in-182.is refl

pub returns-in-183 : goal.returns-in-183
unfolding bit_steps bit_step
returns-in-183 c = at 32 _ 183 0x27411d7c c.in-183.is refl

pub returns-in-184 : goal.returns-in-184
unfolding bit_steps bit_step
returns-in-184 c = at 32 _ 184 0xc805c650 c.in-184.is refl

pub returns-in-185 : goal.returns-in-185
unfolding bit_steps bit_step
returns-in-185 c = at 32 _ 185 0x15406ce8 c.in-185.is refl

pub returns-in-186 : goal.returns-in-186
unfolding bit_steps bit_step
returns-in-186 c = at 32 _ 186 0x7762e5d1 c.in-186.is refl

pub returns-in-187 : goal.returns-in-187
unfolding bit_steps bit_step
returns-in-187 c = at 32 _ 187 0xaa274f69 c.in-187.is refl

pub returns-in-188 : goal.returns-in-188
unfolding bit_steps bit_step
returns-in-188 c = at 32 _ 188 0xb327f7a3 c.in-188.is refl

pub returns-in-189 : goal.returns-in-189
unfolding bit_steps bit_step
returns-in-189 c = at 32 _ 189 0x6e625d1b c.in-189.is refl

pub returns-in-190 : goal.returns-in-190
unfolding bit_steps bit_step
returns-in-190 c = at 32 _ 190 0x0c40d422 c.in-190.is refl

pub returns-in-191 : goal.returns-in-191
unfolding bit_steps bit_step
returns-in-191 c = at 32 _ 191 0xd1057e9a c.in-191.is refl

pub returns-in-192 : goal.returns-in-192
unfolding bit_steps bit_step
returns-in-192 c = at 32 _ 192 0xaba65fe7 c.in-192.is refl

pub returns-in-193 : goal.returns-in-193
unfolding bit_steps bit_step
returns-in-193 c = at 32 _ 193 0x76e3f55f c.in-193.is refl

pub returns-in-194 : goal.returns-in-194
unfolding bit_steps bit_step
returns-in-194 c = at 32 _ 194 0x14c17c66 c.in-194.is refl

pub returns-in-195 : goal.returns-in-195
unfolding bit_steps bit_step
returns-in-195 c = at 32 _ 195 0xc984d6de c.in-195.is refl

pub returns-in-196 : goal.returns-in-196
unfolding bit_steps bit_step
returns-in-196 c = at 32 _ 196 0xd0846e14 c.in-196.is refl

pub returns-in-197 : goal.returns-in-197
unfolding bit_steps bit_step
returns-in-197 c = at 32 _ 197 0x0dc1c4ac c.in-197.is refl

pub returns-in-198 : goal.returns-in-198
unfolding bit_steps bit_step
returns-in-198 c = at 32 _ 198 0x6fe34d95 c.in-198.is refl

pub returns-in-199 : goal.returns-in-199
unfolding bit_steps bit_step
returns-in-199 c = at 32 _ 199 0xb2a6e72d c.in-199.is refl

pub returns-in-200 : goal.returns-in-200
unfolding bit_steps bit_step
returns-in-200 c = at 32 _ 200 0x5de23c01 c.in-200.is refl

pub returns-in-201 : goal.returns-in-201
unfolding bit_steps bit_step
returns-in-201 c = at 32 _ 201 0x80a796b9 c.in-201.is refl

pub returns-in-202 : goal.returns-in-202
unfolding bit_steps bit_step
returns-in-202 c = at 32 _ 202 0xe2851f80 c.in-202.is refl

pub returns-in-203 : goal.returns-in-203
unfolding bit_steps bit_step
returns-in-203 c = at 32 _ 203 0x3fc0b538 c.in-203.is refl

pub returns-in-204 : goal.returns-in-204
unfolding bit_steps bit_step
returns-in-204 c = at 32 _ 204 0x26c00df2 c.in-204.is refl

pub returns-in-205 : goal.returns-in-205
unfolding bit_steps bit_step
returns-in-205 c = at 32 _ 205 0xfb85a74a c.in-205.is refl

pub returns-in-206 : goal.returns-in-206
unfolding bit_steps bit_step
returns-in-206 c = at 32 _ 206 0x99a72e73 c.in-206.is refl

pub returns-in-207 : goal.returns-in-207
unfolding bit_steps bit_step
returns-in-207 c = at 32 _ 207 0x44e284cb c.in-207.is refl

pub returns-in-208 : goal.returns-in-208
unfolding bit_steps bit_step
returns-in-208 c = at 32 _ 208 0x42c2eeda c.in-208.is refl

pub returns-in-209 : goal.returns-in-209
unfolding bit_steps bit_step
returns-in-209 c = at 32 _ 209 0x9f874462 c.in-209.is refl

pub returns-in-210 : goal.returns-in-210
unfolding bit_steps bit_step
returns-in-210 c = at 32 _ 210 0xfda5cd5b c.in-210.is refl

pub returns-in-211 : goal.returns-in-211
unfolding bit_steps bit_step
returns-in-211 c = at 32 _ 211 0x20e067e3 c.in-211.is refl

pub returns-in-212 : goal.returns-in-212
unfolding bit_steps bit_step
returns-in-212 c = at 32 _ 212 0x39e0df29 c.in-212.is refl

pub returns-in-213 : goal.returns-in-213
unfolding bit_steps bit_step
returns-in-213 c = at 32 _ 213 0xe4a57591 c.in-213.is refl

pub returns-in-214 : goal.returns-in-214
unfolding bit_steps bit_step
returns-in-214 c = at 32 _ 214 0x8687fca8 c.in-214.is refl

pub returns-in-215 : goal.returns-in-215
unfolding bit_steps bit_step
returns-in-215 c = at 32 _ 215 0x5bc25610 c.in-215.is refl

pub returns-in-216 : goal.returns-in-216
unfolding bit_steps bit_step
returns-in-216 c = at 32 _ 216 0xb4868d3c c.in-216.is refl

pub returns-in-217 : goal.returns-in-217
unfolding bit_steps bit_step
returns-in-217 c = at 32 _ 217 0x69c32784 c.in-217.is refl

pub returns-in-218 : goal.returns-in-218
unfolding bit_steps bit_step
returns-in-218 c = at 32 _ 218 0x0be1aebd c.in-218.is refl

pub returns-in-219 : goal.returns-in-219
unfolding bit_steps bit_step
returns-in-219 c = at 32 _ 219 0xd6a40405 c.in-219.is refl

pub returns-in-220 : goal.returns-in-220
unfolding bit_steps bit_step
returns-in-220 c = at 32 _ 220 0xcfa4bccf c.in-220.is refl

pub returns-in-221 : goal.returns-in-221
unfolding bit_steps bit_step
returns-in-221 c = at 32 _ 221 0x12e11677 c.in-221.is refl

pub returns-in-222 : goal.returns-in-222
unfolding bit_steps bit_step
returns-in-222 c = at 32 _ 222 0x70c39f4e c.in-222.is refl

pub returns-in-223 : goal.returns-in-223
unfolding bit_steps bit_step
returns-in-223 c = at 32 _ 223 0xad8635f6 c.in-223.is refl

pub returns-in-224 : goal.returns-in-224
unfolding bit_steps bit_step
returns-in-224 c = at 32 _ 224 0x7c834b6c c.in-224.is refl

pub returns-in-225 : goal.returns-in-225
unfolding bit_steps bit_step
returns-in-225 c = at 32 _ 225 0xa1c6e1d4 c.in-225.is refl

pub returns-in-226 : goal.returns-in-226
unfolding bit_steps bit_step
returns-in-226 c = at 32 _ 226 0xc3e468ed c.in-226.is refl

pub returns-in-227 : goal.returns-in-227
unfolding bit_steps bit_step
returns-in-227 c = at 32 _ 227 0x1ea1c255 c.in-227.is refl

pub returns-in-228 : goal.returns-in-228
unfolding bit_steps bit_step
returns-in-228 c = at 32 _ 228 0x07a17a9f c.in-228.is refl

pub returns-in-229 : goal.returns-in-229
unfolding bit_steps bit_step
returns-in-229 c = at 32 _ 229 0xdae4d027 c.in-229.is refl

pub returns-in-230 : goal.returns-in-230
unfolding bit_steps bit_step
returns-in-230 c = at 32 _ 230 0xb8c6591e c.in-230.is refl

pub returns-in-231 : goal.returns-in-231
unfolding bit_steps bit_step
returns-in-231 c = at 32 _ 231 0x6583f3a6 c.in-231.is refl

pub returns-in-232 : goal.returns-in-232
unfolding bit_steps bit_step
returns-in-232 c = at 32 _ 232 0x8ac7288a c.in-232.is refl

pub returns-in-233 : goal.returns-in-233
unfolding bit_steps bit_step
returns-in-233 c = at 32 _ 233 0x57828232 c.in-233.is refl

pub returns-in-234 : goal.returns-in-234
unfolding bit_steps bit_step
returns-in-234 c = at 32 _ 234 0x35a00b0b c.in-234.is refl

pub returns-in-235 : goal.returns-in-235
unfolding bit_steps bit_step
returns-in-235 c = at 32 _ 235 0xe8e5a1b3 c.in-235.is refl

pub returns-in-236 : goal.returns-in-236
unfolding bit_steps bit_step
returns-in-236 c = at 32 _ 236 0xf1e51979 c.in-236.is refl

pub returns-in-237 : goal.returns-in-237
unfolding bit_steps bit_step
returns-in-237 c = at 32 _ 237 0x2ca0b3c1 c.in-237.is refl

pub returns-in-238 : goal.returns-in-238
unfolding bit_steps bit_step
returns-in-238 c = at 32 _ 238 0x4e823af8 c.in-238.is refl

pub returns-in-239 : goal.returns-in-239
unfolding bit_steps bit_step
returns-in-239 c = at 32 _ 239 0x93c79040 c.in-239.is refl

pub returns-in-240 : goal.returns-in-240
unfolding bit_steps bit_step
returns-in-240 c = at 32 _ 240 0x95e7fa51 c.in-240.is refl

pub returns-in-241 : goal.returns-in-241
unfolding bit_steps bit_step
returns-in-241 c = at 32 _ 241 0x48a250e9 c.in-241.is refl

pub returns-in-242 : goal.returns-in-242
unfolding bit_steps bit_step
returns-in-242 c = at 32 _ 242 0x2a80d9d0 c.in-242.is refl

pub returns-in-243 : goal.returns-in-243
unfolding bit_steps bit_step
returns-in-243 c = at 32 _ 243 0xf7c57368 c.in-243.is refl

pub returns-in-244 : goal.returns-in-244
unfolding bit_steps bit_step
returns-in-244 c = at 32 _ 244 0xeec5cba2 c.in-244.is refl

pub returns-in-245 : goal.returns-in-245
unfolding bit_steps bit_step
returns-in-245 c = at 32 _ 245 0x3380611a c.in-245.is refl

pub returns-in-246 : goal.returns-in-246
unfolding bit_steps bit_step
returns-in-246 c = at 32 _ 246 0x51a2e823 c.in-246.is refl

pub returns-in-247 : goal.returns-in-247
unfolding bit_steps bit_step
returns-in-247 c = at 32 _ 247 0x8ce7429b c.in-247.is refl

pub returns-in-248 : goal.returns-in-248
unfolding bit_steps bit_step
returns-in-248 c = at 32 _ 248 0x63a399b7 c.in-248.is refl

pub returns-in-249 : goal.returns-in-249
unfolding bit_steps bit_step
returns-in-249 c = at 32 _ 249 0xbee6330f c.in-249.is refl

pub returns-in-250 : goal.returns-in-250
unfolding bit_steps bit_step
returns-in-250 c = at 32 _ 250 0xdcc4ba36 c.in-250.is refl

pub returns-in-251 : goal.returns-in-251
unfolding bit_steps bit_step
returns-in-251 c = at 32 _ 251 0x0181108e c.in-251.is refl

pub returns-in-252 : goal.returns-in-252
unfolding bit_steps bit_step
returns-in-252 c = at 32 _ 252 0x1881a844 c.in-252.is refl

pub returns-in-253 : goal.returns-in-253
unfolding bit_steps bit_step
returns-in-253 c = at 32 _ 253 0xc5c402fc c.in-253.is refl

pub returns-in-254 : goal.returns-in-254
unfolding bit_steps bit_step
returns-in-254 c = at 32 _ 254 0xa7e68bc5 c.in-254.is refl

pub returns-in_default : goal.returns-in_default
unfolding bit_steps bit_step
returns-in_default c = let e : c.args.n ≡ 255 = omega arith in at 32 _ 255 0x7aa3217d e refl
